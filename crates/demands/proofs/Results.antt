-- When two results are the same, and when they cannot be.
use Rattle.std.proofs.Common.{◌≡◌, ap, ℕ, List, Result, Ok, Err}
use Rattle.model.specs.declared.Planned.{Planned}
use Rattle.model.specs.declared.Passed.{Passed}
use Rattle.model.specs.Results.{planned, passed, Searched, Validated}
use Rattle.model.specs.exploration.Equations.{plan, no_plan}

module _ {T E : Type 0} where
  pub ok_not_err : {A : Type 0} {x : T} {r : E} → ◌≡◌ {A = Result T E} (Ok x) (Err r) → A
  ok_not_err e = cc

  pub err_not_ok : {A : Type 0} {x : T} {r : E} → ◌≡◌ {A = Result T E} (Err r) (Ok x) → A
  err_not_ok e = cc

  pub same_ok : {x y : T} → ◌≡◌ {A = Result T E} (Ok x) (Ok y) → x ≡ y
  same_ok e = cc

  pub same_err : {r q : E} → ◌≡◌ {A = Result T E} (Err r) (Err q) → r ≡ q
  same_err e = cc

-- Plans that are the same have the same cost and number of steps, and passed lists the same cost and bits.
pub same_planned : {c d n m : ℕ} → ◌≡◌ {A = Searched} (Ok (planned c n)) (Ok (planned d m)) → (c ≡ d) × (n ≡ m)
same_planned {c} {d} {n} {m} e =
    let f = same_ok {x = planned c n} {y = planned d m} e in (ap (λ (x : Planned). x.cost) f, ap (λ (x : Planned). x.steps) f)

pub same_passed : {c d a b : ℕ} → ◌≡◌ {A = Validated} (Ok (passed c a)) (Ok (passed d b)) → (c ≡ d) × (a ≡ b)
same_passed {c} {d} {a} {b} e =
    let f = same_ok {x = passed c a} {y = passed d b} e in (ap (λ (x : Passed). x.cost) f, ap (λ (x : Passed). x.hints) f)

-- ---- answers of the equations

pub plan_not_none : {A : Type 0} {c k : ℕ} {p : List ℕ} → plan c p ≡ no_plan k → A
plan_not_none e = cc

pub none_not_plan : {A : Type 0} {c k : ℕ} {p : List ℕ} → no_plan k ≡ plan c p → A
none_not_plan e = cc
