use Rattle.std.proofs.Common.{◌≡◌, ◌*◌, ◌%◌, ◌^◌, ◌<◌}
use Rattle.floats.proofs.modulo.left_over.Given as goal

abbrev pub invariant-loop : goal.invariant-loop
invariant-loop l = record { few : l.left < l.by; is : l.left ≡ l.initial.left * 2 ^ (11 * l.counter) % l.by }

abbrev pub invariant-loop-2 : goal.invariant-loop-2
invariant-loop-2 l = record { few : l.left < l.by; is : l.left ≡ l.initial.left * 2 ^ l.counter % l.by }
