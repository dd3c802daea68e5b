-- "Tree reading is fed nodes, inputs and supplied values, nothing of program or state. From `root` it reads each node's children left to right, then
-- works the node out as above. ... A question takes the next value; with none left it ends the reading. Domain ends it at that node's path. Else the
-- root's value is given."
use Rattle.std.specs.Prelude.{List, [], ◌∷◌, cond, ℕ, suc, get_or, Float}
use Rattle.std.specs.Float.{Format}
use Rattle.arithmetic.specs.Value.{finite, is_one, truth_value, 0f}
use Rattle.arithmetic.specs.Constant
use Rattle.formula.specs.Path.{Path, ◌▸◌, argument, condition, then_arm, else_arm}
use Rattle.formula.specs.Term.{Term, Terms, literal, truth, symbol, apply, branch, miscounted, end, ◌and◌}
use Rattle.meaning.specs.Work.{Interaction, Question, ask, give, undefined, work}

-- what a reading comes to: a value and the supplied values not yet taken, Domain at a path, or the next question
pub data Outcome (A : Type 0) : Type 0 where
  value : A → List Float → Outcome A
  domain : Path → Outcome A
  question : Question → Outcome A

abbrev pub bind : {A B : Type 0} → Outcome A → (A → List Float → Outcome B) → Outcome B
bind (value a s) k = k a s
bind (domain p) k = domain p
bind (question q) k = question q

-- a node's work with the supplied values: "A node's or instruction's result that isn't finite is Domain."
abbrev pub answered : Path → Interaction → List Float → Outcome Float
answered p (give v) s = cond (finite v) (value v s) (domain p)
answered p undefined s = domain p
answered p (ask q k) [] = question q
answered p (ask q k) (x ∷ s) = answered p (k x) s

module _ (F : Format) (inputs : List Float) where
  abbrev mutual
    -- "A number gives itself, a symbol its input, truth values and comparisons 1.0 or 0.0, Not the other one. A conditional or Ifelse reads its first
    -- child, then at 1.0 only the second, else only the third, and gives that."
    pub reading : Term → Path → List Float → Outcome Float
    reading (literal b) p s = value (Constant.literal b) s
    reading (truth b) p s = value (truth_value b) s
    reading (symbol i) p s = value (get_or inputs i 0f) s
    reading (apply o ts) p s = bind (readings ts p 0 s) (λ xs s'. answered p (work F o xs) s')
    reading (branch c y e) p s =
        bind (reading c (p ▸ condition) s) (λ b s'. cond (is_one b) (reading y (p ▸ then_arm) s') (reading e (p ▸ else_arm) s'))
    reading miscounted p s = domain p

    pub readings : Terms → Path → ℕ → List Float → Outcome (List Float)
    readings end p i s = value [] s
    readings (t and ts) p i s =
        bind (reading t (p ▸ argument i) s) (λ x s'. bind (readings ts p (suc i) s') (λ xs s''. value (x ∷ xs) s''))
