-- Projects for worked rows, from their texts.
use Rattle.std.specs.Prelude.{ℕ, suc, Bool, true, false, pos, List, [], ◌∷◌, map, codes, Option, Some, None, bytes_eq, if◌then◌else◌}
use Rattle.std.specs.List.{list_any}
use Rattle.vba_base.specs.declared.place.Refusal.{Refusal}
use Rattle.vba_lexer.specs.Lexed.{lexed}
use Rattle.vba_values.specs.declared.types.WholeKind.TheVariants as kind
use Rattle.vba_values.specs.Val.{Val, whole, text}
use Rattle.vba_words.specs.Readings.{read_line}
use Rattle.vba_module.specs.Parts.{parts_of_lines}
use Rattle.vba_module.specs.Verdict.{trees_of}
use Rattle.binder.specs.Sources.{Source}
use Rattle.binder.specs.Scopes.{Outside}
use Rattle.binder.specs.Violations.{verdict}
use Rattle.binder.specs.Projects.{Startup, broken_rule}

-- a few names of the library and the host
abbrev pub some_outside : Outside
some_outside = record { constant = constant_named; is_library = λ fold dollar. list_any (bytes_eq fold) (words dollar); is_left_out = λ fold. bytes_eq fold (codes "rnd"); is_host = λ fold. list_any (bytes_eq fold) hosts } where
  constant_named : List ℕ → Option Val
  constant_named fold =
      if bytes_eq fold (codes "vblong") then Some (whole kind.Long (pos 3))
      else if bytes_eq fold (codes "vbtab") then Some (text (9 ∷ []))
      else None

  words : Bool → List (List ℕ)
  words true = codes "left" ∷ codes "chr" ∷ []
  words false = codes "left" ∷ codes "chr" ∷ codes "ubound" ∷ codes "array" ∷ codes "vblong" ∷ codes "vbtab" ∷ codes "error" ∷ codes "rnd" ∷ codes "mid" ∷ codes "instr" ∷ codes "isempty" ∷ codes "split" ∷ []

  hosts : List (List ℕ)
  hosts = codes "err" ∷ codes "debug" ∷ codes "cells" ∷ codes "range" ∷ codes "worksheets" ∷ codes "activesheet" ∷ codes "thisworkbook" ∷ codes "application" ∷ []

-- modules by their texts, each a class or not
abbrev pub sources_from : ℕ → List (Bool × List ℕ) → List Source
sources_from number [] = []
sources_from number (m ∷ ms) =
    record { is_class = m.0; text = m.1; parts = parts_of_lines (trees_of (map (λ line. read_line m.1 line.tokens) (lexed number m.1))) }
    ∷ sources_from (suc number) ms

abbrev pub told : Option Refusal → List (ℕ × ℕ × ℕ × ℕ)
told None = []
told (Some r) = (r.rule, r.place.«module», r.place.line, r.place.column) ∷ []

-- rule, module, line and column of the verdict
unfoldable pub judged : List (Bool × List ℕ) → List (ℕ × ℕ × ℕ × ℕ)
judged texts = told (verdict some_outside (sources_from 1 texts))

-- a project of one standard module
abbrev pub of_one : List ℕ → List (Bool × List ℕ)
of_one source = (false, source) ∷ []

-- the macro to begin with
abbrev pub main : Startup
main = record { module_fold = codes "module1"; sub_fold = codes "main" }

-- the same of the first rule of names and types that is broken
unfoldable pub broken : List ℕ → List (ℕ × ℕ × ℕ × ℕ)
broken source = told (broken_rule some_outside (sources_from 1 (of_one source)) main)
