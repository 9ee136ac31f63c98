-- What is assembled of a project is its code.
use Rattle.std.proofs.Common.{◌≡◌, ℕ, zero, suc, ◌+◌, Bool, true, false, cond, List, [], ◌∷◌, ◌++◌, length, map, get_or, refl, sym, ap, ◌∙◌, arith, rules}
use Rattle.std.specs.Prelude.{nat_lt, slice_index, Vec}
use Rattle.std.specs.declared.alloc.Global.{Global}
use Rattle.std.proofs.lemmas.Bool.{ltb-true, ltb-false}
use Rattle.std.proofs.lemmas.List.{get_or_past, length-map, get_or_append_left, get_or-append-add}
use Rattle.std.proofs.Math.Seq.{get_or-append_seam}
use Rattle.vba_values.specs.Val.{Val, empty, missing}
use Rattle.vba_values.specs.View.{view as value_view}
use Rattle.vba_values.specs.declared.value.Value.{Value, the_lemmas}
use Rattle.vba_values.specs.declared.value.Value.TheVariants as value
use Rattle.bound_project.specs.declared.statement.StatementNode.{StatementNode}
use Rattle.bound_project.specs.declared.node.Node.{Node}
use Rattle.bound_project.specs.declared.project.Body.{Body}
use Rattle.bound_project.specs.declared.project.Project.{Project}
use Rattle.bound_project.specs.Pieces.{Tables, name_of}
use Rattle.bound_project.specs.Bodies.{Fits, tables_of, body_view, statement_view, project_view}
use Rattle.bound_project.specs.Project as project
use Rattle.bound_project.specs.Statements as plain_statements
use Rattle.pcode.specs.Instructions as plain
use Rattle.pcode.specs.Layout.{starts_of, nexts_of, entries_of, bodies_code, code_in, code_of}
use Rattle.pcode.specs.View.{instr_view, code_view}
use Rattle.pcode.specs.declared.instr.Instr.{Instr}
use Rattle.codegen.specs.declared.node.Added.{Added}
use Rattle.codegen.specs.Emission.{lists_of, constant_number}
use Rattle.codegen.specs.Parts.{HasAdded, IsMade, nexts_in}
use Rattle.codegen.proofs.Nodes.{Grown, map_append}
use Rattle.codegen.proofs.Statements.{bodies_seen, table_seen}

-- ---- the constants

view_empty : value_view value.Empty ≡ empty
view_empty = search (rules, the_lemmas)

view_missing : value_view value.Missing ≡ missing
view_missing = search (rules, the_lemmas)

at_number : (vs : List Val) (i n : ℕ) (b : Bool) → n ≡ length vs → nat_lt i n ≡ b → get_or (vs ++ empty ∷ missing ∷ []) (cond b i n) empty ≡ get_or vs i empty
at_number vs i n true e h = let lt = ltb-true i n h in get_or_append_left vs (empty ∷ missing ∷ []) empty i (omega arith)
at_number vs i n false e h =
    let le = ltb-false i n h in
    ap (λ k. get_or (vs ++ empty ∷ missing ∷ []) k empty) e ∙ get_or-append_seam vs empty (missing ∷ []) empty ∙ sym (get_or_past vs i empty (omega arith))

-- neither of the two constants more is a text
name_past : (vs : List Val) (i : ℕ) → name_of (get_or (vs ++ empty ∷ missing ∷ []) i empty) ≡ name_of (get_or vs i empty)
name_past [] zero = refl
name_past [] (suc zero) = refl
name_past [] (suc (suc i)) = refl
name_past (v ∷ vs) zero = refl
name_past (v ∷ vs) (suc i) = name_past vs i

grown : (old new : List Value) (orders : List (List ℕ)) (added : Added) → HasAdded old new added
    → Grown (record { constants = map value_view old; orders = orders }) (record { constants = map value_view new; orders = orders }) added
grown old new orders added h =
    let vs = map value_view old in
    let e : added.empty ≡ length vs = h.empty_at ∙ sym (length-map old value_view) in
    let more : map value_view new ≡ vs ++ (empty ∷ missing ∷ []) = ap (λ l. map value_view l) h.new_is ∙ map_append value_view old (value.Empty ∷ value.Missing ∷ [])
    ∙ ap (λ v. vs ++ (v ∷ value_view value.Missing ∷ [])) view_empty ∙ ap (λ v. vs ++ (empty ∷ v ∷ [])) view_missing in
    record {
      constant = λ i. ap (λ l. get_or l (constant_number added i) empty) more ∙ at_number vs i added.empty (nat_lt i added.empty) e refl;
      empty_is = ap (λ l. get_or l added.empty empty) more ∙ ap (λ n. get_or (vs ++ (empty ∷ missing ∷ [])) n empty) e ∙ get_or-append_seam vs empty (missing ∷ []) empty;
      missing_is =
          (let m : added.missing ≡ length vs + 1 = omega (arith, h.missing_at, length-map old value_view) in
          ap (λ l. get_or l added.missing empty) more ∙ ap (λ n. get_or (vs ++ (empty ∷ missing ∷ [])) n empty) m ∙ get_or-append-add vs (empty ∷ missing ∷ []) 1 empty);
      order = λ i. refl;
      name = λ i. ap (λ l. name_of (get_or l i empty)) more ∙ name_past vs i;
    }

-- ---- the tables

firsts : (entries : List (List ℕ)) → map (λ (row : List ℕ). slice_index row 0) entries ≡ starts_of entries
firsts entries = refl

next_same : (t : Tables) (ns : List Node) (ss : List StatementNode) → map (λ (s : StatementNode). s.next) ss ≡ map (λ (l : plain_statements.Statement). l.next) (map (statement_view t ns) ss)
next_same t ns [] = refl
next_same t ns (s ∷ ss) = ap (λ r. s.next ∷ r) (next_same t ns ss)

nexts_same : (t : Tables) (bs : List Body) → nexts_in bs ≡ nexts_of (map (body_view t) bs)
nexts_same t [] = refl
nexts_same t (b ∷ bs) =
    ap (λ r. r ∷ nexts_in bs) (next_same t b.nodes.items b.statements.items)
    ∙ ap (λ r. map (λ (l : plain_statements.Statement). l.next) (map (statement_view t b.nodes.items) b.statements.items) ∷ r) (nexts_same t bs)

-- ---- the code

-- a code of these parts
parts_same : (instrs : List plain.Instr) (starts : List ℕ) (nexts entries : List (List ℕ)) (pr : project.Project) → entries ≡ entries_of 1 pr.bodies → instrs ≡ plain.Leave ∷ bodies_code entries 0 pr.bodies
    → starts ≡ starts_of entries → nexts ≡ nexts_of pr.bodies
    → (record { instrs = instrs; starts = starts; nexts = nexts; entries = entries; declared = pr.declared; startup = pr.startup }) ≡ code_of pr
parts_same instrs starts nexts entries pr e i s n =
    let made : List plain.Instr → List ℕ → List (List ℕ) → List (List ℕ) → plain.Code =
    λ is ss ns es. record { instrs = is; starts = ss; nexts = ns; entries = es; declared = pr.declared; startup = pr.startup } in
    ap (λ is. made is starts nexts entries) i ∙ ap (λ ss. made (plain.Leave ∷ bodies_code entries 0 pr.bodies) ss nexts entries) s
    ∙ ap (λ ns. made (plain.Leave ∷ bodies_code entries 0 pr.bodies) (starts_of entries) ns entries) n ∙ ap (λ es. code_in es pr) e

pub compiled : (pr : Project) (constants : Vec Value Global) (instrs : Vec Instr Global) (starts : Vec ℕ Global) (nexts entries : Vec (Vec ℕ Global) Global) (added : Added) → Fits pr
    → HasAdded pr.constants.items constants.items added
    → IsMade added pr.orders.items pr.bodies.items instrs.items starts.items (lists_of nexts.items) (lists_of entries.items)
    → code_view (record { instrs = instrs; constants = constants; orders = pr.orders; starts = starts; nexts = nexts; entries = entries; declared = pr.declared; startup = pr.startup })
    ≡ code_of (project_view pr)
compiled pr constants instrs starts nexts entries added fits two made =
    let t = tables_of pr in
    let u : Tables = record { constants = map value_view constants.items; orders = t.orders } in
    let g : Grown t u added = grown pr.constants.items constants.items t.orders added two in
    let bs = pr.bodies.items in
    let es = lists_of entries.items in
    parts_same (map (instr_view u) instrs.items) starts.items (lists_of nexts.items) es (project_view pr)
    (made.entries_are ∙ table_seen t u added g 1 bs fits)
    (ap (λ l. map (instr_view u) l) made.instrs_are ∙ ap (λ l. plain.Leave ∷ l) (bodies_seen t u added g es 0 bs fits))
    made.starts_are
    (made.nexts_are ∙ nexts_same t bs)
