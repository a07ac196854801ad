-- What is looked up among the slots is what is looked up among their records.
use Rattle.std.proofs.Common.{◌≡◌, refl, sym, ap, ◌∙◌, Bool, true, false, Option, None, Some, List, [], ◌∷◌, ℕ, suc, ◌+◌, ◌≤◌}
use Rattle.model.specs.logic.Formula.{choose}
use Rattle.model.specs.exploration.Key.{Key, less}
use Rattle.model.specs.exploration.Guided.{value_of}
use Rattle.model.specs.job.Layout.{constraint_count}
use Rattle.model.specs.search.Node.{same_numbers, same_node}
use Rattle.model.specs.search.Query.{Query}
use Rattle.astar.specs.Records as search
use Rattle.astar.specs.Records.{rank_in, find, least_open}
use Rattle.astar.proofs.Finding.{least_some}
use Rattle.task.specs.Meaning.{key_is}
use Rattle.table.specs.declared.Slot.{Slot}
use Rattle.table.specs.declared.lookup.Candidate.{Candidate}
use Rattle.table.specs.Slots.{slot_in}
use Rattle.table.specs.Lookup.{find_in, key_of, rank_at, candidate, better, least_in, slot_of_best}
use Rattle.nodes.specs.Meaning.{Clean}
use Rattle.nodes.proofs.Same.{same_nodes}
use Rattle.held.specs.Held.{sys, node_for, held_is, held_in, Sound, AllSound}
use Rattle.held.proofs.HeldLaws.{held_one, sound_at}

-- an open slot and its rank, as a search has them
abbrev pub rank_is : Candidate → Key
rank_is c = key_is c.rank

abbrev pub open_is : Option Candidate → Option search.Open
open_is (Some c) = Some (record { slot = c.slot; rank = rank_is c })
open_is None = None

module _ (job : Query) where
  held_node : (s : Slot) → (held_is job.bytes s).node ≡ node_for job.bytes s.node
  unfolding held_is
  held_node s = refl

  -- The rank of a sound slot's record is the slot's.
  pub held_rank : (s : Slot) → Sound job s → rank_in (sys job) (held_is job.bytes s) ≡ rank_at s
  unfolding held_is
  held_rank s h = ap (λ (e : Option ℕ). key_of (s.key.cost + value_of e) s.key.steps) h.estimated.is

  -- ---- the slot of a node

  module _ (few : constraint_count job.bytes ≤ 8) (node : List ℕ) (clean : Clean (constraint_count job.bytes) node) where
    -- The slot of a node, among sound slots.
    pub find_held : (ss : List Slot) → AllSound job ss → (k : ℕ)
        → find (sys job) (node_for job.bytes node) (held_in job.bytes ss) k ≡ find_in node ss k
    unfolding find find_in held_in
    find_held [] h k = refl
    find_held (s ∷ ss) h k = go (same_numbers node s.node) refl (find_held ss h.1 (suc k))
      where
        same : same_numbers node s.node ≡ same_node (node_for job.bytes node) (held_is job.bytes s).node
        same = same_nodes (constraint_count job.bytes) node s.node clean h.0.formed.clean few
            ∙ ap (same_node (node_for job.bytes node)) (sym (held_node s))

        go : (b : Bool) → same_numbers node s.node ≡ b
            → find (sys job) (node_for job.bytes node) (held_in job.bytes ss) (suc k) ≡ find_in node ss (suc k)
            → find (sys job) (node_for job.bytes node) (held_in job.bytes (s ∷ ss)) k ≡ find_in node (s ∷ ss) k
        go true e ih = let q = sym same ∙ e in rw (e, find_in, q, find)
        go false e ih = let q = sym same ∙ e in rw (e, find_in, q, find) ih

  -- ---- the open slot of the least rank

  -- It is the open record of the least rank.
  pub least_held : (ss : List Slot) → AllSound job ss → (k : ℕ) → least_open (sys job) (held_in job.bytes ss) k ≡ open_is (least_in ss k)
  unfolding least_open least_in better held_in held_is
  least_held [] h k = refl
  least_held (s ∷ ss) h k = go s.taken refl (least_in ss (suc k)) refl (least_held ss h.1 (suc k))
    where
      rank : rank_at s ≡ rank_in (sys job) (held_is job.bytes s)
      rank = sym (held_rank s h.0)

      go : (a : Bool) → s.taken ≡ a → (b : Option Candidate) → least_in ss (suc k) ≡ b
          → least_open (sys job) (held_in job.bytes ss) (suc k) ≡ open_is (least_in ss (suc k))
          → least_open (sys job) (held_in job.bytes (s ∷ ss)) k ≡ open_is (least_in (s ∷ ss) k)
      go true e None f ih = rw (e, ih, f)
      go true e (Some b) f ih = rw (e, ih, f)
      go false e None f ih = rw (e, ih, f) (ap (λ (z : Key). Some (record { slot = k; rank = z })) (sym rank))
      go false e (Some b) f ih = rw (e, ih, f) (ap (λ (z : Key). first (less (rank_is b) z) z) (sym rank) ∙ same (less (rank_is b) (rank_at s)))
        where
          first : Bool → Key → Option search.Open
          first y z = elim y as (λ w. Option search.Open) [
            | false ↦ Some (record { slot = k; rank = z })
            | true ↦ Some (record { slot = b.slot; rank = rank_is b })
          ]

          same : (y : Bool) → first y (rank_at s) ≡ open_is (choose y (Some b) (Some (candidate s k)))
          same true = refl
          same false = refl

  -- ---- where only the slot's number is told

  module _ (ss : List Slot) (sound : AllSound job ss) {f : Option ℕ} (e : f ≡ slot_of_best (least_in ss 0)) where
    -- The slot that is found is the open one of the least rank, which is its own rank.
    pub least_at : {i : ℕ} → f ≡ Some i → least_open (sys job) (held_in job.bytes ss) 0 ≡ Some (record { slot = i; rank = rank_at (slot_in ss i) })
    unfolding slot_of_best
    least_at {i} q = go (least_in ss 0) refl
      where
        go : (b : Option Candidate) → least_in ss 0 ≡ b
            → least_open (sys job) (held_in job.bytes ss) 0 ≡ Some (record { slot = i; rank = rank_at (slot_in ss i) })
        go (Some b) d =
            let w : Some b.slot ≡ Some i = sym (ap slot_of_best d) ∙ sym e ∙ q in
            let p : b.slot ≡ i = cc in
            let l : least_open (sys job) (held_in job.bytes ss) 0 ≡ Some (record { slot = i; rank = rank_is b }) =
            least_held ss sound 0 ∙ ap open_is d ∙ (λ z. Some (record { slot = p z; rank = rank_is b })) in
            let m = least_some (sys job) (held_in job.bytes ss) l in
            let h = held_one job.bytes ss i m.1 in
            let y : rank_is b ≡ rank_at (slot_in ss i) = m.3 ∙ ap (rank_in (sys job)) h.1 ∙ held_rank (slot_in ss i) (sound_at job ss sound i h.0) in
            l ∙ ap (λ (z : Key). Some (record { slot = i; rank = z })) y
        go None d = let w : None ≡ Some i = sym (ap slot_of_best d) ∙ sym e ∙ q in absurd cc

    -- Where there is none, no slot is open.
    pub least_nothing : f ≡ None → least_open (sys job) (held_in job.bytes ss) 0 ≡ None
    unfolding slot_of_best
    least_nothing q = go (least_in ss 0) refl
      where
        go : (b : Option Candidate) → least_in ss 0 ≡ b → least_open (sys job) (held_in job.bytes ss) 0 ≡ None
        go (Some b) d = let w : Some b.slot ≡ None = sym (ap slot_of_best d) ∙ sym e ∙ q in absurd cc
        go None d = least_held ss sound 0 ∙ ap open_is d
