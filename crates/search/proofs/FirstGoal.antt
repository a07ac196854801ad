-- The goals of a key and the cut ones among the slots are those among their records.
use Rattle.std.proofs.Common.{◌≡◌, refl, sym, ap, ap₂, ◌∙◌, Bool, true, false, not, ◌&&◌, Option, None, Some, List, [], ◌∷◌, map, ℕ, zero, suc, ◌+◌, ◌≤◌, ◌<◌}
use Rattle.std.proofs.Common.{arith, length, drop, drop_of_length-le, drop-cons}
use mathlib.Core.Bool.{◌||◌}
use Rattle.model.specs.exploration.Key.{Key, same_key, earlier, first_of}
use Rattle.model.specs.exploration.System.{System}
use Rattle.model.specs.exploration.Explore.{Entry}
use Rattle.model.specs.logic.Formula.{choose}
use Rattle.model.specs.search.Node.{Node}
use Rattle.model.specs.job.Layout.{job_of}
use Rattle.model.specs.search.Query.{Query}
use Rattle.model.proofs.rights.Steps.{goal_same}
use Rattle.astar.specs.Records.{Held, Table, path_of}
use Rattle.astar.specs.Search.{first_goal, has_cut_in}
use Rattle.astar.proofs.Invariant.{Inv}
use Rattle.table.specs.declared.Slot.{Slot}
use Rattle.table.specs.Slots.{slot_in, no_slot}
use Rattle.paths.specs.Chain.{slot_path, order}
use Rattle.held.specs.Held.{sys, node_for, held_is, held_in, Sound, AllSound}
use Rattle.held.proofs.HeldLaws.{sound_at}
use Rattle.held.proofs.Chains.{path_held}
use Rattle.search.specs.GoalSlots.{slot_cut, any_cut, due, chosen, first_due, After}
use Rattle.search.proofs.GoalLaws.{due_none, due_more, due_key, due_after}

-- ---- the goals of a key, one slot more in front

-- the first path of one more goal, if it is one, and of those after it
abbrev one_more : List ℕ → Bool → Option (List ℕ) → Option (List ℕ)
one_more p false o = o
one_more p true None = Some p
one_more p true (Some q) = Some (first_of p q)

-- whether a record is an uncut goal of key k
abbrev AtGoal : (S : System) → Key → Held S → Bool
AtGoal S k r = same_key r.key k && not (S.cut r.hints) && S.goal r.node

-- A record in front is one more goal, if it is one.
goals_cons : (S : System) (t : Table S) (k : Key) (r : Held S) (rs : Table S) (i : ℕ)
    → first_goal S t k (r ∷ rs) i ≡ one_more (path_of S t k.steps i) (AtGoal S k r) (first_goal S t k rs (suc i))
unfolding first_goal
goals_cons S t k r rs i = go (AtGoal S k r) refl (first_goal S t k rs (suc i)) refl
  where
    go : (b : Bool) → AtGoal S k r ≡ b → (o : Option (List ℕ)) → first_goal S t k rs (suc i) ≡ o
        → first_goal S t k (r ∷ rs) i ≡ one_more (path_of S t k.steps i) (AtGoal S k r) (first_goal S t k rs (suc i))
    go false e o f = rw (e, first_goal)
    go true e None f = rw (e, first_goal, f)
    go true e (Some p) f = rw (e, first_goal, f)

-- Its own path matters only if it is a goal.
own_path : (p q : List ℕ) (b : Bool) (o : Option (List ℕ)) → (b ≡ true → p ≡ q) → one_more p b o ≡ one_more q b o
own_path p q false o h = refl
own_path p q true o h = ap (λ (z : List ℕ). one_more z true o) (h refl)

-- ---- the same among slots

-- the path of what was found
abbrev pub path_found : List Slot → ℕ → Option ℕ → Option (List ℕ)
path_found ss s None = None
path_found ss s (Some g) = Some (slot_path ss s g)

-- The first of two paths is that of the slot which the order picks.
first_path : (ss : List Slot) (s i b : ℕ) (o : Bool) → earlier (slot_path ss s b) (slot_path ss s i) ≡ o
    → Some (first_of (slot_path ss s i) (slot_path ss s b)) ≡ path_found ss s (choose o (Some b) (Some i))
unfolding first_of
first_path ss s i b true e = rw (e, first_of)
first_path ss s i b false e = rw (e, first_of)

-- What is chosen has the first path.
chosen_path : (ss : List Slot) (k : Key) (i : ℕ) (d : Bool) (f : Option ℕ) → After ss (suc i) k f
    → one_more (slot_path ss k.steps i) d (path_found ss k.steps f) ≡ path_found ss k.steps (chosen ss d i f)
unfolding chosen
chosen_path ss k i false None h = refl
chosen_path ss k i false (Some b) h = refl
chosen_path ss k i true None h = refl
chosen_path ss k i true (Some b) h =
    first_path ss k.steps i b (order ss b i) (ap (λ (n : ℕ). earlier (slot_path ss n b) (slot_path ss n i)) (sym h.3))

-- A sound slot is due if its record is an uncut goal of the key.
due_record : (job : Query) (k : Key) (x : Slot) → Sound job x → AtGoal (sys job) k (held_is job.bytes x) ≡ due job.bytes k x
unfolding due held_is
due_record job k x h =
    ap (λ (b : Bool). same_key (held_is job.bytes x).key k && not ((sys job).cut (held_is job.bytes x).hints) && b)
    (goal_same job.usable (job_of job.bytes) (node_for job.bytes x.node) ∙ sym h.formed.marked)

module _ (job : Query) (ss : List Slot) (sound : AllSound job ss) {m0 : Node} {P : Entry (sys job) → Type 0}
    (inv : Inv (sys job) m0 (held_in job.bytes ss) P) (k : Key) where
  abbrev T : Table (sys job)
  T = held_in job.bytes ss

  abbrev From : ℕ → Option ℕ
  From i = first_due job.bytes k ss (drop i ss) i

  abbrev Goals : ℕ → Option (List ℕ)
  Goals i = first_goal (sys job) T k (map (held_is job.bytes) (drop i ss)) i

  -- Slot i, due or not, is one more in front of those after it.
  goals_on : (i : ℕ) → i < length ss → Goals (suc i) ≡ path_found ss k.steps (From (suc i)) → Goals i ≡ path_found ss k.steps (From i)
  goals_on i l ih =
      let x = slot_in ss i in
      let front : Goals i ≡ one_more (path_of (sys job) T k.steps i) (AtGoal (sys job) k (held_is job.bytes x)) (Goals (suc i)) =
      rw (drop-cons ss i no_slot l) (goals_cons (sys job) T k (held_is job.bytes x) (map (held_is job.bytes) (drop (suc i) ss)) i) in
      let own : due job.bytes k x ≡ true → path_of (sys job) T k.steps i ≡ slot_path ss k.steps i
      = λ e. path_held job ss inv k.steps i l (omega (arith, due_key job.bytes k x e)) in
      front ∙ ap₂ (one_more (path_of (sys job) T k.steps i)) (due_record job k x (sound_at job ss sound i l)) ih
      ∙ own_path (path_of (sys job) T k.steps i) (slot_path ss k.steps i) (due job.bytes k x) (path_found ss k.steps (From (suc i))) own
      ∙ chosen_path ss k i (due job.bytes k x) (From (suc i)) (due_after job.bytes k ss (suc i) (omega arith))
      ∙ ap (path_found ss k.steps) (sym (due_more job.bytes k ss i l))

  -- So it goes on from the last slot to the first.
  goals_from : (d i : ℕ) → d + i ≡ length ss → Goals i ≡ path_found ss k.steps (From i)
  unfolding first_goal
  goals_from zero i e = let l : length ss ≤ i = omega arith in rw (← due_none job.bytes k ss i l, drop_of_length-le ss l)
  goals_from (suc d) i e = goals_on i (omega arith) (goals_from d (suc i) (omega arith))

  -- The first path to an uncut goal of the key is that of the slot found.
  pub goal_found : first_goal (sys job) T k T 0 ≡ path_found ss k.steps (first_due job.bytes k ss ss 0)
  unfolding held_in
  goal_found = goals_from (length ss) 0 (omega arith)

-- ---- cut slots

-- A slot among those is cut exactly if a record is.
pub cut_records : (job : Query) (ss : List Slot) → has_cut_in (sys job) (held_in job.bytes ss) ≡ any_cut job.bytes ss
unfolding has_cut_in any_cut slot_cut held_in held_is
cut_records job [] = refl
cut_records job (x ∷ xs) = ap (λ (b : Bool). slot_cut job.bytes x || b) (cut_records job xs)
