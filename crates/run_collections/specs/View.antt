-- Serves the code: the plain data that members of a Collection stand for.
use Rattle.std.specs.Prelude.{ℕ}
use Rattle.vba_values.specs.declared.value.Value.{Value}
use Rattle.vba_values.specs.Val.{Val}
use Rattle.vba_values.specs.View.{view}
use Rattle.vba_meaning.specs.Collections as plain
use Rattle.run_collections.specs.declared.members.CollectionMember.{CollectionMember}
use Rattle.run_collections.specs.declared.members.CollectionMember.TheVariants as member

abbrev pub member_view : CollectionMember → plain.CollectionMember
member_view member.Add = plain.is_add
member_view member.Count = plain.is_count
member_view member.Item = plain.is_item
member_view member.Remove = plain.is_remove
member_view member.Enumerator = plain.is_enumerator

-- what a member gives, and how many references wait to be let go at once
abbrev pub used_view : Value × ℕ → Val × ℕ
used_view used = (view used.0, used.1)
