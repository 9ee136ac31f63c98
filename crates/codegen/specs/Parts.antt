-- Serves the code: the parts of a code, and the constants that are added.
use Rattle.std.specs.Prelude.{◌≡◌, ℕ, ◌+◌, List, [], ◌∷◌, ◌++◌, length, map, slice_index, Vec}
use Rattle.std.specs.declared.alloc.Global.{Global}
use Rattle.vba_values.specs.declared.value.Value.{Value}
use Rattle.vba_values.specs.declared.value.Value.TheVariants as value
use Rattle.bound_project.specs.declared.project.Body.{Body}
use Rattle.pcode.specs.declared.instr.Instr.{Instr}
use Rattle.pcode.specs.declared.instr.Instr.TheVariants as instr
use Rattle.codegen.specs.declared.node.Added.{Added}
use Rattle.codegen.specs.Emission.{lists_of, bodies_instrs, table_of}

-- behind the constants stand nothing and what stands for an argument that isn't given
pub record HasAdded (old new : List Value) (added : Added) : Type 0 where
  pub empty_at : added.empty ≡ length old
  pub missing_at : added.missing ≡ length old + 1
  pub new_is : new ≡ old ++ (value.Empty ∷ value.Missing ∷ [])

-- for each statement the number of the next one
abbrev pub nexts_in : List Body → List (List ℕ)
nexts_in bs = map (λ b. map (λ s. s.next) b.statements.items) bs

pub record IsMade (added : Added) (orders : List (Vec ℕ Global)) (bodies : List Body) (instrs : List Instr) (starts : List ℕ) (nexts entries : List (List ℕ)) : Type 0 where
  pub entries_are : entries ≡ table_of added (lists_of orders) 1 bodies
  pub instrs_are : instrs ≡ instr.Leave ∷ bodies_instrs added (lists_of orders) entries 0 bodies
  pub starts_are : starts ≡ map (λ row. slice_index row 0) entries
  pub nexts_are : nexts ≡ nexts_in bodies
