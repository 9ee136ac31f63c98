-- The names of sheets, one by one, and those of classes.
use Rattle.std.proofs.Common.{◌≡◌, ℕ, ◌+◌, ◌-◌, ◌<◌, List, [], ◌∷◌, ◌++◌, map, length, take, get_or, ap, refl, ◌∙◌, arith}
use Rattle.std.proofs.lemmas.List.{map_more, take_all}
use Rattle.sheet_host.specs.Books.{Sheets, NamedSheet, sheet_at}
use Rattle.sheet_host.specs.Sheets.{no_content}
use Rattle.bound_project.specs.declared.declarations.Class.{Class}
use Rattle.bound_project.specs.View.{class_view}
use Rattle.pcode_run.specs.Runs.{sheet_names}

-- one name more
pub names_more : (book : Sheets) (place : ℕ) → place < length book → sheet_names (take (place + 1) book) ≡ sheet_names (take place book) ++ (sheet_at book (record { 0 = place + 1 })).name ∷ []
names_more book place lt =
    let none : NamedSheet = record { name = []; content = no_content } in
    let same : place ≡ (place + 1) - 1 = omega arith in
    map_more (λ (s : NamedSheet). s.name) book place none lt ∙ ap (λ i. sheet_names (take place book) ++ (get_or book i none).name ∷ []) same

-- all of them
pub names_all : (book : Sheets) (count : ℕ) → count ≡ length book → sheet_names (take count book) ≡ sheet_names book
names_all book count e = ap sheet_names (take_all count book (omega (arith, e)))

-- the names of classes
pub classes_seen : (cs : List Class) → map (λ c. (class_view c).name.spelling) cs ≡ map (λ c. c.name.spelling) (map class_view cs)
classes_seen [] = refl
classes_seen (c ∷ cs) = ap (λ ns. (class_view c).name.spelling ∷ ns) (classes_seen cs)
