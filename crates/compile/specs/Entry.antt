-- What the entry point answers.
use Rattle.std.specs.Prelude.{Result, Ok, Err}
use Rattle.refusals.specs.Refusals.{refusal_at, refusal_of}
use Rattle.refusals.specs.declared.Refusal.{Refusal}
use Rattle.machine.specs.Compile.{Compiled, accepted, refused, refused_at}

abbrev pub answer : Compiled → Result Unit Refusal
answer (refused n place) = Err (refusal_of n)
answer (refused_at n k) = Err (refusal_at n k)
answer (accepted f symbols) = Ok tt
