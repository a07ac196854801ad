-- Storing a node's text: its heading, and then what is left of it.
use Rattle.std.proofs.Common.{◌≡◌, refl, sym, ap, ap₂, ◌∙◌, Bool, ◌⊎◌, List, [], ◌∷◌, ◌++◌, ℕ, suc, ◌+◌, ◌<◌, ◌≤◌, add-zero, add_assoc, arith, length, get_or}
use Rattle.std.proofs.Common.{length-append}
use Rattle.std.proofs.lemmas.List.Edits.{sets}
use Rattle.std.proofs.Math.Seq.{length-sets}
use Rattle.model.specs.declared.Constant.{Constant}
use Rattle.model.specs.declared.Unary.{Unary}
use Rattle.model.specs.declared.Binary.{Binary}
use Rattle.model.specs.declared.Code.{Code}
use Rattle.model.specs.declared.Code.TheVariants.{Leaf, Fact, Action, One, Two, Unknown}
use Rattle.model.specs.logic.Formula.{code_of}
use Rattle.model.specs.logic.Reading.{Parsed, parsed}
use Rattle.normal.specs.declared.Ends.{Ends}
use Rattle.normal.specs.Heading.{heading, sign}
use Rattle.normal.specs.Writing.{behind, bytes_of, Room, Stored}
use Rattle.normal.proofs.Nodes.{grows, Met, met, NodeHere, leaf_node, number_node, one_node, two_node}

-- two runs of stores, one after the other
sets-append : (xs ys l : List ℕ) (i : ℕ) → sets (sets l i xs) (i + length xs) ys ≡ sets l i (xs ++ ys)
sets-append [] ys l i = ap (λ (k : ℕ). sets l k ys) (add-zero i)
sets-append (x ∷ xs) ys l i =
    let e : i + length (x ∷ xs) ≡ suc i + length xs = omega arith in
    ap (λ (k : ℕ). sets (sets l i (x ∷ xs)) k ys) e ∙ sets-append xs ys (sets l i (x ∷ [])) (suc i)

-- the node's heading is stored: j is the position after it, and out₁ is what out became
pub record Begun (s : List ℕ) (at : ℕ) (b : Bool) (to : ℕ) (out : List ℕ) (k : Code) (j : ℕ) (out₁ : List ℕ) : Type 0 where
  pub met : Met s at b to (length out) k
  pub moved : j ≡ to + length (heading k (get_or s (at + 1) 0) b)
  pub stored : out₁ ≡ sets out to (heading k (get_or s (at + 1) 0) b)

-- n is the byte after the code
pub begun : {s : List ℕ} {at : ℕ} {b : Bool} {to : ℕ} {out : List ℕ} {k : Code} {n j : ℕ} {out₁ : List ℕ}
    → Room (parsed 64 64 s at) b to (length out) → k ≡ code_of (get_or s at 0) → n ≡ get_or s (at + 1) 0
    → (j ≡ to + length (heading k n b)) × (out₁ ≡ sets out to (heading k n b)) → Begun s at b to out k j out₁
begun r e f h = record { met = met r e; moved = rw (← f) h.0; stored = rw (← f) h.1 }

module _ {s : List ℕ} {at : ℕ} {b : Bool} {to : ℕ} {out : List ℕ} {k : Code} {j : ℕ} {out₁ : List ℕ} (g : Begun s at b to out k j out₁) where
  abbrev Written : Ends → List ℕ → Type 0
  Written r out' = Stored (parsed 64 64 s at) b to out r out'

  -- what is left of the text has room
  rest_fits : {rest : List ℕ} {end : ℕ} → NodeHere g.met rest end → j + length rest ≤ length out₁
  rest_fits {rest} n =
      let h = heading k (get_or s (at + 1) 0) b in
      omega (arith, ap length n.text, length-append h rest, g.moved, g.met.room.1, ap length g.stored, length-sets out to h)

  -- with what is left of it the text is stored
  rest_stored : {rest : List ℕ} {end : ℕ} → NodeHere g.met rest end → (out' : List ℕ) → out' ≡ sets out₁ j rest
      → Written (record { next = end; to = j + length rest }) out'
  rest_stored {rest} n out' e =
      let h = heading k (get_or s (at + 1) 0) b in
      let d : j + length rest ≡ to + length (bytes_of (parsed 64 64 s at) b) = omega (arith, ap length n.text, length-append h rest, g.moved) in (
        ap₂ {C = Ends} (λ (x y : ℕ). record { next = x; to = y }) (sym n.ends) d,
        e ∙ ap₂ (λ (l : List ℕ) (i : ℕ). sets l i rest) g.stored g.moved ∙ sets-append h rest out to ∙ ap (sets out to) (sym n.text),
      )

  -- nothing is left
  bare_stored : {end : ℕ} → NodeHere g.met [] end → Written (record { next = end; to = j }) out₁
  bare_stored {end} n = rw add-zero at (rest_stored n out₁ refl)

  pub leaf_stored : ((c : Constant) × (k ≡ Leaf c)) ⊎ (k ≡ Unknown) → Written (record { next = at + 1; to = j }) out₁
  leaf_stored d = bare_stored (leaf_node g.met d)

  pub number_stored : (k ≡ Fact) ⊎ (k ≡ Action) → Written (record { next = at + 1 + 1; to = j }) out₁
  number_stored d = bare_stored (number_node g.met d).1

  -- one operand, with its sign
  module _ (o : Unary) (d : k ≡ One o) (f : Bool) (ef : f ≡ sign o b) where
    pub one_wants : Room (parsed 64 64 s (at + 1)) f j (length out₁)
    one_wants = let x = one_node g.met o d in rw ef (x.0, rest_fits x.1)

    pub one_stored : (r : Ends) (out' : List ℕ) → Stored (parsed 64 64 s (at + 1)) f j out₁ r out' → Written r out'
    one_stored r out' w = rw (w.0, ef) (rest_stored (one_node g.met o d).1 out' (rw ef at w.1))

  -- two operands
  module _ (o : Binary) (d : k ≡ Two o) where
    abbrev p : Parsed
    p = parsed 64 64 s (at + 1)

    abbrev q : Parsed
    q = parsed 64 64 s (behind p)

    -- both texts have room
    both_fit : j + length (bytes_of p b) + length (bytes_of q b) ≤ length out₁
    both_fit = omega (arith, rest_fits (two_node g.met o d).2, length-append (bytes_of p b) (bytes_of q b))

    pub two_wants : Room p b j (length out₁)
    two_wants = ((two_node g.met o d).0, omega (arith, both_fit))

    -- the first operand ends at r₁, and out₂ is what out₁ became
    module _ (r₁ : Ends) (out₂ : List ℕ) (w₁ : Stored p b j out₁ r₁ out₂) where
      -- the second stands further on
      pub two_grows : at + 1 < r₁.next
      two_grows = rw w₁.0 (grows s (at + 1) (two_node g.met o d).0)

      pub two_wants' : Room (parsed 64 64 s r₁.next) b r₁.to (length out₂)
      two_wants' = rw w₁.0 ((two_node g.met o d).1, omega (arith, both_fit, ap length w₁.1, length-sets out₁ j (bytes_of p b)))

      pub two_stored : (r : Ends) (out₃ : List ℕ) → Stored (parsed 64 64 s r₁.next) b r₁.to out₂ r out₃ → Written r out₃
      two_stored r out₃ w =
          let e : out₃ ≡ sets out₁ j (bytes_of p b ++ bytes_of q b) = rw (w.1, w₁.1, w₁.0) (sets-append (bytes_of p b) (bytes_of q b) out₁ j) in
          let n : r ≡ record { next = behind q; to = j + length (bytes_of p b ++ bytes_of q b) } = rw (w.0, w₁.0, length-append, add_assoc) refl in
          rw n (rest_stored (two_node g.met o d).2 out₃ e)
