-- Each is finite.
use Rattle.std.proofs.Common.{refl, rules, tests, ◌∙◌, ◌&&◌}
use Rattle.std.proofs.lemmas.Iterator.{YieldsList-from_slice}
use Rattle.std.proofs.lemmas.Iterator.Search.{all_from_yields_List}
use Rattle.std.proofs.lemmas.List.Recursion.{same_from_clauses}
use Rattle.std.specs.List.{list_all}
use Rattle.arithmetic.specs.Value.{finite}
use Rattle.formula.specs.Text.{all}
use Rattle.run.proofs.all_finite.Goals as goal

pub returns : goal.returns
returns c =
    let xs = c.args.xs.now in
    all_from_yields_List finite _ _ _ c.all.ensures.ran (YieldsList-from_slice xs cc) (λ x b q k. search (rules, tests))
    ∙ same_from_clauses (list_all finite) (all finite) (λ x r. finite x && r) refl (λ x xs. refl) (λ x xs. refl) xs
