use Rattle.std.proofs.Common.{sym, ap, ◌∙◌, option_map}
use Rattle.vba_base.proofs.Entries.{bytes_of-some, bytes_of-nothing}
use Rattle.vba_base.proofs.mem_files.held_in.Goals as goal

pub returns-in_err-place : goal.returns-in_err-place
returns-in_err-place c =
    ap (option_map (λ bytes. bytes.now.items)) c.from_residual.ensures
    ∙ sym (bytes_of-nothing c.args.name.now c.args.entries.now (sym c.place_of.ensures ∙ c.in_err-place.was))

pub returns : goal.returns
returns c = sym (bytes_of-some c.args.name.now c.args.entries.now c.in_ok-place.place c.index-entries-place.result (sym c.place_of.ensures ∙ c.in_ok-place.was))
