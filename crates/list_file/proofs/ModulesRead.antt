-- The modules of a list stand for what their files hold, each as the kind that the list says.
use Rattle.std.proofs.Common.{◌≡◌, ◌∙◌, Bool, List, [], ◌∷◌, ◌++◌, map, length, refl, ap, sym, arith, append_assoc}
use Rattle.std.proofs.lemmas.List.{append-nil, map-append}
use Rattle.list_file.specs.declared.bytes.ModuleBytes.{ModuleBytes}
use Rattle.list_file.specs.declared.list.ModulePath.{ModulePath}
use Rattle.list_file.specs.Plans.{ModuleFile, module_files}
use Rattle.list_file.specs.Sources.{bytes_view, file_view, files_view, modules_view}

abbrev kinds_read : List ModuleBytes → List Bool
kinds_read files = map (λ (f : ModuleBytes). f.is_class) files

abbrev kinds_listed : List ModulePath → List Bool
kinds_listed modules = map (λ (m : ModulePath). m.is_class) modules

-- the kinds of the files that were read, and of the modules that are left, are those of the list
pub record KindsGoOn (modules left : List ModulePath) (files : List ModuleBytes) : Type 0 where
  pub kinds : kinds_read files ++ kinds_listed left ≡ kinds_listed modules

pub one_kind : (modules left : List ModulePath) (files : List ModuleBytes) (m : ModulePath) (f : ModuleBytes) → KindsGoOn modules (m ∷ left) files → f.is_class ≡ m.is_class
    → KindsGoOn modules left (files ++ f ∷ [])
one_kind modules left files m f on is = record {
  kinds =
      ap (λ ks. ks ++ kinds_listed left) (map-append (λ (x : ModuleBytes). x.is_class) files (f ∷ []))
      ∙ append_assoc (kinds_read files) (f.is_class ∷ []) (kinds_listed left)
      ∙ ap (λ k. kinds_read files ++ k ∷ kinds_listed left) is
      ∙ on.kinds;
}

abbrev head_or : Bool → List Bool → Bool
head_or d [] = d
head_or d (k ∷ ks) = k

abbrev rest : List Bool → List Bool
rest [] = []
rest (k ∷ ks) = ks

as_listed : (modules : List ModulePath) (files : List ModuleBytes) → kinds_read files ≡ kinds_listed modules → files_view files ≡ module_files (modules_view modules) (bytes_view files)
as_listed [] [] e = refl
as_listed [] (f ∷ files) e = absurd (omega (arith, ap length e))
as_listed (m ∷ modules) [] e = absurd (omega (arith, ap length e))
as_listed (m ∷ modules) (f ∷ files) e =
    ap (λ k. record { is_class = k; bytes = f.bytes.items } ∷ files_view files) (ap (head_or f.is_class) e)
    ∙ ap (λ fs. record { is_class = m.is_class; bytes = f.bytes.items } ∷ fs) (as_listed modules files (ap rest e))

pub all_listed : (modules left : List ModulePath) (files : List ModuleBytes) → length left ≡ 0 → KindsGoOn modules left files
    → files_view files ≡ module_files (modules_view modules) (bytes_view files)
all_listed modules [] files none on = as_listed modules files (sym (append-nil (kinds_read files)) ∙ on.kinds)
all_listed modules (m ∷ left) files none on = absurd (omega (arith, none))
