-- Counting the carried parts on the way comes to the list of them: no more than may be, or the position of the seventh.
use Rattle.std.proofs.Common.{Err, ◌≡◌, refl, sym, ap, ◌∙◌, Bool, true, false, List, [], ◌∷◌, ◌++◌, ℕ, zero, suc, ◌+◌, ◌<◌, arith, drop, lt-ltb, Option, None}
use Rattle.std.proofs.Common.{Some}
use Rattle.model.specs.declared.Unary.TheVariants.{Not, Next, Eventually, Always}
use Rattle.model.specs.declared.Binary.TheVariants.{And, Or, Until, Release}
use Rattle.model.specs.Verdict.{no_refusal, Verdict}
use Rattle.model.specs.Refusal.{refusal}
use Rattle.model.specs.logic.Formula.{Formula, constant, fact, action, unary, binary, choose}
use Rattle.model.specs.logic.Parts.{most_parts, Part, parts, parts_of, temporal, size, count}
use Rattle.model.specs.job.Decoding.{parts_verdict}
use Rattle.formula.specs.Extent.{none, note, seen_in}
use Rattle.formula.specs.declared.Seen.{Seen}

-- the parts of a list noted one after the other
unfoldable see : Seen → List Part → Seen
see s [] = s
see s (p ∷ ps) = see (note s p.position) ps

-- two lists are noted in turn
see_append : (s : Seen) (ps qs : List Part) → see s (ps ++ qs) ≡ see (see s ps) qs
unfolding see
see_append s [] qs = refl
see_append s (p ∷ ps) qs = see_append (note s p.position) ps qs

-- the operand of a next is noted, if it is not noted anyway
seen_next : (φ : Formula) (s : Seen) (at : ℕ) → seen_in φ true s at ≡ choose (temporal φ) (seen_in φ false s at) (seen_in φ false (note s at) at)
unfolding seen_in temporal
seen_next (constant c) s at = refl
seen_next (fact i) s at = refl
seen_next (action a) s at = refl
seen_next (unary Not φ) s at = refl
seen_next (unary Next φ) s at = refl
seen_next (unary Eventually φ) s at = refl
seen_next (unary Always φ) s at = refl
seen_next (binary And φ ψ) s at = refl
seen_next (binary Or φ ψ) s at = refl
seen_next (binary Until φ ψ) s at = refl
seen_next (binary Release φ ψ) s at = refl

-- the operand of a next is noted among the parts, if it is not noted anyway
see_next : (b : Bool) (p : Part) (s : Seen) (xs ys : List Part) {x y : Seen} → see s ys ≡ y → see (note s p.position) xs ≡ x
    → see s (elim b [ true ↦ ys | false ↦ p ∷ xs ]) ≡ choose b y x
unfolding see
see_next true p s xs ys e f = e
see_next false p s xs ys e f = f

-- what is seen in a formula are its parts, numbered from any n
abbrev SeenParts : Formula → Type 0
SeenParts φ = (s : Seen) (n at : ℕ) → see s (parts φ n at) ≡ seen_in φ false s at

-- two operands' parts are seen in turn
in_turn_lem : (φ ψ : Formula) → SeenParts φ → SeenParts ψ → (s : Seen) (n at m bt : ℕ)
    → see s (parts φ n at ++ parts ψ m bt) ≡ seen_in ψ false (seen_in φ false s at) bt
in_turn_lem φ ψ e f s n at m bt =
    see_append s (parts φ n at) (parts ψ m bt) ∙ ap (λ (x : Seen). see x (parts ψ m bt)) (e s n at) ∙ f (seen_in φ false s at) m bt

-- that holds of every formula
seen_parts : (φ : Formula) → SeenParts φ
unfolding parts see seen_in
seen_parts (constant c) s n at = refl
seen_parts (fact i) s n at = refl
seen_parts (action a) s n at = refl
seen_parts (unary Not φ) s n at = seen_parts φ s n (suc at)
seen_parts (unary Next φ) s n at =
    see_next (temporal φ) _ s _ _ (seen_parts φ s n (suc at)) (seen_parts φ (note s (suc at)) (suc n) (suc at)) ∙ sym (seen_next φ s (suc at))
seen_parts (unary Eventually φ) s n at = seen_parts φ (note s at) (suc n) (suc at)
seen_parts (unary Always φ) s n at = seen_parts φ (note s at) (suc n) (suc at)
seen_parts (binary And φ ψ) s n at = in_turn_lem φ ψ (seen_parts φ) (seen_parts ψ) s n (suc at) (n + count φ) (suc at + size φ)
seen_parts (binary Or φ ψ) s n at = in_turn_lem φ ψ (seen_parts φ) (seen_parts ψ) s n (suc at) (n + count φ) (suc at + size φ)
seen_parts (binary Until φ ψ) s n at = in_turn_lem φ ψ (seen_parts φ) (seen_parts ψ) (note s at) (suc n) (suc at) (suc n + count φ) (suc at + size φ)
seen_parts (binary Release φ ψ) s n at = in_turn_lem φ ψ (seen_parts φ) (seen_parts ψ) (note s at) (suc n) (suc at) (suc n + count φ) (suc at + size φ)

-- up to the sixth part only the count changes
note_more : (k at : ℕ) → k < most_parts → note (record { parts = k; seventh = None }) at ≡ record { parts = k + 1; seventh = None }
note_more k at h = rw (lt-ltb k most_parts h)

-- after the seventh part nothing changes
see_full : (ps : List Part) (p : ℕ) → see (record { parts = most_parts; seventh = Some p }) ps ≡ record { parts = most_parts; seventh = Some p }
unfolding see
see_full [] p = refl
see_full (q ∷ ps) p = see_full ps p

-- refusal 5 by what was seen
abbrev pub seen_verdict : ℕ → Option ℕ → Verdict
seen_verdict o None = no_refusal
seen_verdict o (Some p) = Err (refusal 5 (o + p))

-- refusal 5 by the parts from the seventh on
abbrev head_verdict : ℕ → List Part → Verdict
head_verdict o ps = elim ps [ [] ↦ no_refusal | p ∷ qs ↦ Err (refusal 5 (o + p.position)) ]

-- with k parts seen, the seventh is the one that j parts stand before, as many as may still come
see_seventh : (o j k : ℕ) (ps : List Part) → k + j ≡ most_parts
    → seen_verdict o (see (record { parts = k; seventh = None }) ps).seventh ≡ head_verdict o (drop j ps)
unfolding see
see_seventh o zero k [] e = refl
see_seventh o (suc j) k [] e = refl
see_seventh o zero k (p ∷ ps) e =
    ap (λ (x : Seen). seen_verdict o x.seventh)
    (ap (λ (x : ℕ). see (note (record { parts = x; seventh = None }) p.position) ps) (let h : k ≡ most_parts = omega arith in h) ∙ see_full ps p.position)
see_seventh o (suc j) k (p ∷ ps) e =
    ap (λ (x : Seen). seen_verdict o (see x ps).seventh) (note_more k p.position (omega arith)) ∙ see_seventh o j (k + 1) ps (omega arith)

-- what is seen in a whole formula decides refusal 5
pub seen_verdict_lem : (o : ℕ) (φ : Formula) → seen_verdict o (seen_in φ false none 0).seventh ≡ parts_verdict o (parts_of φ)
unfolding parts_verdict parts_of
seen_verdict_lem o φ =
    ap (λ (x : Seen). seen_verdict o x.seventh) (sym (seen_parts φ none 0 0)) ∙ see_seventh o most_parts 0 (parts φ 0 0) refl
