use Rattle.std.proofs.Common.{not, arith}
use Rattle.vba_events.specs.Links.{is_of_field, without_field}
use Rattle.vba_events.proofs.Rising.{rise_filter, rise_more}
use Rattle.vba_events.proofs.laws.numbers_rise.Goals as goal

pub returns : goal.returns
returns c = record {
  first = omega arith;
  connect = λ old source sink field rising.
      rise_more 1 (record { source = source; sink = sink; field = field; number = old.next }) (without_field sink field old.links)
      (rise_filter (λ link. not (is_of_field sink field link)) 1 old.next old.links rising);
  disconnect = λ old sink field rising. rise_filter (λ link. not (is_of_field sink field link)) 1 old.next old.links rising;
}
