-- Names of the host.
use Rattle.std.proofs.Common.{◌≡◌, ℕ, Bool, true, false, List, refl, sym, ap, ◌∙◌}
use Rattle.std.specs.Prelude.{◌||◌, bytes_eq, codes}
use Rattle.vba_values.specs.declared.object.HostRef.TheVariants as host
use Rattle.vba_values.specs.Types as type
use Rattle.vba_words.specs.declared.identifier.Identifier.{Identifier}
use Rattle.bound_project.specs.Expressions.{active_sheet, host_object}
use Rattle.bound_members.specs.bound_calls.specs.bound_forms.specs.Terms.{a_value, err_object}
use Rattle.bound_members.specs.bound_calls.specs.bound_forms.specs.Members.{sheets_value}
use Rattle.bound_members.specs.bound_calls.specs.bound_forms.specs.ExpressionsBound.{host_term, sheet_term}
use Rattle.bound_names.specs.Owned.{host_rest}

abbrev pub is_named : Identifier → List ℕ → Bool
is_named x word = bytes_eq x.name word

abbrev pub is_either : Identifier → (one other : List ℕ) → Bool
is_either x one other = bytes_eq x.name one || bytes_eq x.name other

pub err_is : (x : Identifier) → is_named x (codes "err") ≡ true → host_term x ≡ err_object
err_is x a = rw a refl

pub sheets_are : (x : Identifier) → is_named x (codes "err") ≡ false → is_either x (codes "worksheets") (codes "sheets") ≡ true → host_term x ≡ sheets_value
sheets_are x a b = rw (a, b) refl

pub sheet_member_is : (x : Identifier) → is_named x (codes "err") ≡ false → is_either x (codes "worksheets") (codes "sheets") ≡ false → is_either x (codes "cells") (codes "range") ≡ true → host_term x ≡ sheet_term x
sheet_member_is x a b c = rw (a, b, c) refl

pub rest_is : (x : Identifier) → is_named x (codes "err") ≡ false → is_either x (codes "worksheets") (codes "sheets") ≡ false → is_either x (codes "cells") (codes "range") ≡ false → host_term x ≡ host_rest x
rest_is x a b c = rw (a, b, c) refl

pub active_is : (x : Identifier) → is_named x (codes "activesheet") ≡ true → host_rest x ≡ a_value active_sheet type.worksheet
active_is x a = rw a refl

pub workbook_is : (x : Identifier) → is_named x (codes "activesheet") ≡ false → is_either x (codes "thisworkbook") (codes "activeworkbook") ≡ true → host_rest x ≡ a_value (host_object host.Workbook) type.object
workbook_is x a b = rw (a, b) refl

pub application_is : (x : Identifier) → is_named x (codes "activesheet") ≡ false → is_either x (codes "thisworkbook") (codes "activeworkbook") ≡ false → is_named x (codes "application") ≡ true
    → host_rest x ≡ a_value (host_object host.Application) type.object
application_is x a b c = rw (a, b, c) refl

-- as the calls say it
pub named_is : (text : List ℕ) (x : Identifier) (word : List ℕ) (b found : Bool) → text ≡ x.name → found ≡ bytes_eq text word → found ≡ b → is_named x word ≡ b
named_is text x word b found t f is = ap (λ (u : List ℕ). bytes_eq u word) (sym t) ∙ sym f ∙ is

pub either_is : (text : List ℕ) (x : Identifier) (one other : List ℕ) (b found : Bool) → text ≡ x.name → found ≡ (bytes_eq text one || bytes_eq text other) → found ≡ b → is_either x one other ≡ b
either_is text x one other b found t f is = ap (λ (u : List ℕ). bytes_eq u one || bytes_eq u other) (sym t) ∙ sym f ∙ is
