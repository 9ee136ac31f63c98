-- Members that are found.
use Rattle.std.proofs.Common.{◌≡◌, ℕ, true, false, List, Option, Some, None, refl, sym, ap, subst, ◌∙◌, arith, [], ◌∷◌, length-append}
use Rattle.std.specs.Prelude.{option_map, unwrap_or}
use Rattle.vba_base.specs.declared.place.Place.{Place}
use Rattle.vba_values.specs.Val.{text}
use Rattle.bound_project.specs.declared.declared_type.DeclaredType.TheVariants.{Plain}
use Rattle.bound_project.specs.declared.declared_type.ElementType.TheVariants as element
use Rattle.bound_project.specs.Expressions as bound
use Rattle.bound_project.specs.Drafts.{Drafted, with_constant}
use Rattle.bound_project.specs.Pieces.{name_in, name_of}
use Rattle.bound_project.proofs.Drafts.{constant_last}
use Rattle.bound_project.specs.View.{element_view}
use Rattle.bound_calls.specs.bound_forms.specs.Terms.{a_host_member}
use Rattle.bound_calls.specs.bound_forms.specs.Terms as terms
use Rattle.bound_calls.specs.bound_forms.specs.Members as members_bound
use Rattle.bound_calls.specs.bound_forms.specs.Operands.{HostKind, application, workbook, sheets, sheet, area, collection, any_object}
use Rattle.bound_calls.specs.bound_forms.specs.Members.{member_in, member_of_kind, unknown_member}
use Rattle.bound_calls.specs.declared.term.HostMember.{HostMember}
use Rattle.bound_calls.specs.Steps.{AddsConstant}
use Rattle.bound_calls.proofs.Growing.{grown_constant}
use Rattle.bound_members.specs.declared.kinds.HostKind as declared
use Rattle.bound_members.specs.declared.members.Known.{Known}
use Rattle.bound_members.specs.Kinds.{kind_view}
use Rattle.bound_members.specs.Members.{FindsLate, FindsMember, FindsNone, found_member, is_workbook}

of_kind : (k : HostKind) (dot : Place) (object : bound.Expr) (fold : List ℕ) (m : terms.HostMember) → member_in k fold ≡ Some m → member_of_kind k dot object fold ≡ a_host_member object m
of_kind application dot object fold m h = ap (λ (o : Option terms.HostMember). unwrap_or (option_map (λ x. a_host_member object x) o) (unknown_member dot object)) h
of_kind workbook dot object fold m h = let e : None ≡ Some m = h in absurd cc
of_kind sheets dot object fold m h = ap (λ (o : Option terms.HostMember). unwrap_or (option_map (λ x. a_host_member object x) o) (unknown_member dot object)) h
of_kind sheet dot object fold m h = ap (λ (o : Option terms.HostMember). unwrap_or (option_map (λ x. a_host_member object x) o) (unknown_member dot object)) h
of_kind area dot object fold m h = ap (λ (o : Option terms.HostMember). unwrap_or (option_map (λ x. a_host_member object x) o) (unknown_member dot object)) h
of_kind collection dot object fold m h = ap (λ (o : Option terms.HostMember). unwrap_or (option_map (λ x. a_host_member object x) o) (unknown_member dot object)) h
of_kind any_object dot object fold m h = ap (λ (o : Option terms.HostMember). unwrap_or (option_map (λ x. a_host_member object x) o) (unknown_member dot object)) h

none_of_kind : (k : HostKind) (dot : Place) (object : bound.Expr) (fold : List ℕ) → is_workbook k ≡ false → member_in k fold ≡ None → member_of_kind k dot object fold ≡ unknown_member dot object
none_of_kind application dot object fold w h = ap (λ (o : Option terms.HostMember). unwrap_or (option_map (λ x. a_host_member object x) o) (unknown_member dot object)) h
none_of_kind workbook dot object fold w h = let e : true ≡ false = w in absurd cc
none_of_kind sheets dot object fold w h = ap (λ (o : Option terms.HostMember). unwrap_or (option_map (λ x. a_host_member object x) o) (unknown_member dot object)) h
none_of_kind sheet dot object fold w h = ap (λ (o : Option terms.HostMember). unwrap_or (option_map (λ x. a_host_member object x) o) (unknown_member dot object)) h
none_of_kind area dot object fold w h = ap (λ (o : Option terms.HostMember). unwrap_or (option_map (λ x. a_host_member object x) o) (unknown_member dot object)) h
none_of_kind collection dot object fold w h = ap (λ (o : Option terms.HostMember). unwrap_or (option_map (λ x. a_host_member object x) o) (unknown_member dot object)) h
none_of_kind any_object dot object fold w h = ap (λ (o : Option terms.HostMember). unwrap_or (option_map (λ x. a_host_member object x) o) (unknown_member dot object)) h

pub finds_none : (k : declared.HostKind) (fold : List ℕ) (d : Drafted) → is_workbook (kind_view k) ≡ false → member_in (kind_view k) fold ≡ None → FindsNone k fold d d
finds_none k fold d w h = record { same = refl; is = λ dot object. none_of_kind (kind_view k) dot object fold w h }

pub finds : (k : declared.HostKind) (fold : List ℕ) (known : Known) (d e : Drafted) (number : ℕ) → member_in (kind_view k) fold ≡ Some (found_member fold known) → AddsConstant (text fold) d e number
    → FindsMember k fold d e (record { name = number; of = Plain known.of; least = known.least; greatest = known.greatest; is_late = false })
finds k fold known d e number h a =
    let m : HostMember = record { name = number; of = Plain known.of; least = known.least; greatest = known.greatest; is_late = false } in
    let P : Drafted → Type 0 = λ (x : Drafted). FindsMember k fold d x m in
    let named : name_in (with_constant d.tables (text fold)) number ≡ fold = ap name_of (constant_last d.tables (text fold) number a.number_is) in
    subst P (sym a.draft_is) (record {
      grown = grown_constant d (text fold);
      pieces = refl;
      named = omega (arith, a.number_is, length-append d.tables.constants (text fold ∷ []));
      is = λ dot object. of_kind (kind_view k) dot object fold (found_member fold known) h
          ∙ ap (λ (n : List ℕ). a_host_member object (record { name = n; of = element_view known.of; least = known.least; greatest = known.greatest; late = false })) (sym named);
    })

-- a member that the run finds
pub finds_late : (fold : List ℕ) (d e : Drafted) (number : ℕ) → AddsConstant (text fold) d e number
    → FindsLate fold d e (record { name = number; of = Plain element.Variant; least = 0; greatest = None; is_late = true })
finds_late fold d e number a =
    let P : Drafted → Type 0 = λ (x : Drafted). FindsLate fold d x (record { name = number; of = Plain element.Variant; least = 0; greatest = None; is_late = true }) in
    subst P (sym a.draft_is) (record {
      grown = grown_constant d (text fold);
      pieces = refl;
      named = omega (arith, a.number_is, length-append d.tables.constants (text fold ∷ []));
      is = ap (λ (n : List ℕ). members_bound.found_member true n) (ap name_of (constant_last d.tables (text fold) number a.number_is));
    })
