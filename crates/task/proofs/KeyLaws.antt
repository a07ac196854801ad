-- The derived `<` and `==` of keys are the tests of the model.
use Rattle.std.proofs.Common.{◌≡◌, refl, ◌∙◌, Bool, true, false, cond, ◌&&◌, eqb, ltb, Some, Less, Equal, Greater}
use Rattle.std.specs.Ordering.{is_lt, is_some_and, partial_ordering_then, partial_lt}
use Rattle.model.specs.exploration.Key.{less, same_key}
use Rattle.task.specs.contracts.KeyPartialOrd.TheImpl as order
use Rattle.task.specs.declared.Key as code
use Rattle.task.specs.Meaning.{key_is}

-- what `j < k` ensures of its answer
pub lt_is_less : (j k : code.Key) {r : Bool} → r ≡ partial_lt order.partial_cmp-value.it j k → r ≡ less (key_is j) (key_is k)
unfolding less
lt_is_less j k e = e ∙ by_cost (ltb j.cost k.cost) (eqb j.cost k.cost) (ltb j.steps k.steps) (eqb j.steps k.steps)
  where
    by_cost : (lower equal fewer as_many : Bool)
        → is_some_and is_lt (partial_ordering_then (Some (cond lower Less (cond equal Equal Greater))) (Some (cond fewer Less (cond as_many Equal Greater))))
        ≡ elim lower [ true ↦ true | false ↦ elim equal [ true ↦ fewer | false ↦ false ] ]
    by_cost true equal fewer as_many = refl
    by_cost false false fewer as_many = refl
    by_cost false true true as_many = refl
    by_cost false true false true = refl
    by_cost false true false false = refl

-- what `j == k` ensures of its answer
pub eq_is_same : (j k : code.Key) {r : Bool} → r ≡ eqb j.cost k.cost && eqb j.steps k.steps → r ≡ same_key (key_is j) (key_is k)
unfolding same_key
eq_is_same j k e = e ∙ by_cost (eqb j.cost k.cost)
  where
    by_cost : (b : Bool) → b && eqb j.steps k.steps ≡ elim b [ true ↦ eqb j.steps k.steps | false ↦ false ]
    by_cost true = refl
    by_cost false = refl
