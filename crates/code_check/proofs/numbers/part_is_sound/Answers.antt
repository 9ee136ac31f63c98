use Rattle.std.proofs.Common.{◌<◌, arith}
use Rattle.std.proofs.lemmas.Bool.{iff_false}
use Rattle.pcode.specs.View.{code_view}
use Rattle.code_check.proofs.Tests.{refused, granted}
use Rattle.code_check.proofs.Instrs.{sounds_more}
use Rattle.code_check.proofs.numbers.part_is_sound.Goals as goal

pub returns-then-not-is_sound_at : goal.returns-then-not-is_sound_at
returns-then-not-is_sound_at c =
    refused (λ all. iff_false c.is_sound_at.ensures c.if-not-is_sound_at.true (λ i e. all c.loop-address.address i ((c.addresses_of-addresses.ensures c.loop-address.address).1 (c.loop-address.auto.address, c.loop-address-test.true)) e))

pub loop-address-preserved : goal.loop-address-preserved
loop-address-preserved c =
    sounds_more (code_view c.args.code.now) c.args.procedure c.addresses_of-addresses.result.first c.loop-address.address c.loop-address.invariant (c.is_sound_at.ensures.0 c.if-not-is_sound_at.false)

pub returns : goal.returns
returns c = granted (λ pc i of e. (
    let at = (c.addresses_of-addresses.ensures pc).0 of in
    let there : pc < c.loop-address.address = omega (arith, at.1) in
    c.loop-address.invariant pc at.0 there i e))
