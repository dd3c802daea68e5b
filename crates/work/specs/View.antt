-- What a node's work comes to, as the declared enum shows it, and the values kept, as the declared struct holds them.
use Rattle.std.specs.Prelude.{◌≡◌, List, [], ◌∷◌, ℕ, ◌+◌, drop, take, Float, Option, Some, None}
use Rattle.meaning.specs.Work as Work
use Rattle.meaning.specs.Work.{Interaction, give, undefined, ask, elementary, power}
use Rattle.work.specs.declared.Kept.{Kept}
use Rattle.work.specs.declared.Outcome.{Outcome}
use Rattle.work.specs.declared.Outcome.TheVariants.{Value, Undefined}
use Rattle.work.specs.declared.Question.{Question}
use Rattle.work.specs.declared.Question.TheVariants.{Elementary, Power}

-- a question's function number and argument, or Power's base and exponent
abbrev pub shown_question : Work.Question → Question
shown_question (elementary f x) = Elementary f x
shown_question (power a b) = Power a b

-- and back
abbrev pub question_of : Question → Work.Question
question_of (Elementary f x) = elementary f x
question_of (Power a b) = power a b

-- a value, not a number, or a question
abbrev pub shown : Interaction → Outcome
shown (give v) = Value v
shown undefined = Undefined
shown (ask q k) = Outcome.Question (shown_question q)

-- the values kept: the first `count` of nine places
abbrev pub kept_values : Kept → List Float
kept_values k = take k.count k.values

-- the value at a place, where there are as many
abbrev pub Next : List Float → ℕ → Option Float → Type 0
Next xs place (Some v) = drop place xs ≡ v ∷ drop (place + 1) xs
Next xs place None = drop place xs ≡ []
