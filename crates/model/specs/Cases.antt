-- The jobs marked (m) of document 01: one table, and one theorem that each comes out as it is to, by computation.
use Rattle.std.specs.Prelude.{Ok, Err, ◌≡◌, refl, ℕ, List, [], ◌∷◌, ◌++◌, map, length}
use Rattle.model.specs.Results.{planned as plan_of}
use Rattle.model.specs.Refusal.{refusal}
use Rattle.model.specs.calls.Call.{Call, call}
use Rattle.model.specs.calls.Search.{SearchEnd, ruled}
use Rattle.model.specs.calls.WriteBack.{WriteEnd, written_back}

-- ---- job P

-- a set of facts below 8, in 64 bits
unfoldable pub facts : ℕ → List ℕ
facts s = s ∷ 0 ∷ 0 ∷ 0 ∷ 0 ∷ 0 ∷ 0 ∷ 0 ∷ []

-- "facts 0 sanded, 1 lamp, 2 scanned; start none. Step 0 sand adds 0, cost 5; step 1 lamp adds 1, cost 2; step 2 pass needs 0 and 1, adds 2,
-- cost 9."
unfoldable pub task : ℕ → List ℕ
unfolding facts
task goal =
    facts 0 ++ facts goal
    ++ facts 0 ++ facts 1 ++ facts 0 ++ (5 ∷ 0 ∷ [])
    ++ facts 0 ++ facts 2 ++ facts 0 ++ (2 ∷ 0 ∷ [])
    ++ facts 3 ++ facts 4 ++ facts 0 ++ (9 ∷ 0 ∷ [])

-- "its pair is 8, 94"
unfoldable pub plain : ℕ → List ℕ
unfolding task
plain goal = (3 ∷ 3 ∷ 0 ∷ 0 ∷ []) ++ (8 ∷ 0 ∷ 94 ∷ 0 ∷ []) ++ task goal

-- with one formula
unfoldable pub with_one : ℕ → ℕ → ℕ → List ℕ → List ℕ
unfolding task
with_one goal rules hints φ =
    (3 ∷ 3 ∷ rules ∷ hints ∷ []) ++ (12 ∷ 0 ∷ 94 ∷ 0 ∷ 106 ∷ 0 ∷ length φ ∷ 0 ∷ []) ++ task goal ++ φ

-- "goal fact 2"
unfoldable pub P : List ℕ
unfolding plain
P = plain 4

unfoldable pub P-rule : List ℕ → List ℕ
unfolding with_one
P-rule φ = with_one 4 1 0 φ

unfoldable pub P-hint : List ℕ → List ℕ
unfolding with_one
P-hint φ = with_one 4 0 1 φ

-- "Goal none"
unfoldable pub N : List ℕ
unfolding plain
N = plain 0

unfoldable pub N-rule : List ℕ → List ℕ
unfolding with_one
N-rule φ = with_one 0 1 0 φ

-- ---- the table

-- "The program lends zeros, one a step, so it may use every step"; the jobs above have three steps.
abbrev pub by_program : List ℕ → Call
by_program job = call job (0 ∷ 0 ∷ 0 ∷ []) 0

-- The searches are lent a table of two bytes and a plan buffer of four, the bytes 7 and 9, so that what is zero, written and kept is seen.
-- What is wanted of a search: the cost, the number of actions and the buffer; or a number. Of writing back: the length and the buffer.
pub data Case : Type 0 where
  planned : List ℕ → ℕ → ℕ → List ℕ → Case
  refused : List ℕ → ℕ → Case
  rewritten : List ℕ → ℕ → List ℕ → Case

unfoldable pub cases : List Case
unfolding P P-rule P-hint N N-rule
cases =
    -- P: cost 16, steps 0 1 2
    planned P 16 3 (0 ∷ 1 ∷ 2 ∷ 9 ∷ [])
    -- with rule 23 10 04 00 04 01: 1 0 2
    ∷ planned (P-rule (0x23 ∷ 0x10 ∷ 0x04 ∷ 0x00 ∷ 0x04 ∷ 0x01 ∷ [])) 16 3 (1 ∷ 0 ∷ 2 ∷ 9 ∷ [])
    -- rule 02: refusal 12; rule 21 02: 0 1 2; rule 00: 12
    ∷ refused (P-rule (0x02 ∷ [])) 12
    ∷ planned (P-rule (0x21 ∷ 0x02 ∷ [])) 16 3 (0 ∷ 1 ∷ 2 ∷ 9 ∷ [])
    ∷ refused (P-rule (0x00 ∷ [])) 12
    -- goal none: empty plan, cost 0; with rule 20 02: the same; with rule 20 20 01: plan 1, cost 2
    ∷ planned N 0 0 (9 ∷ 9 ∷ 9 ∷ 9 ∷ [])
    ∷ planned (N-rule (0x20 ∷ 0x02 ∷ [])) 0 0 (9 ∷ 9 ∷ 9 ∷ 9 ∷ [])
    ∷ planned (N-rule (0x20 ∷ 0x20 ∷ 0x01 ∷ [])) 2 1 (1 ∷ 9 ∷ 9 ∷ 9 ∷ [])
    -- hint 22 10 04 01: refusal 11; hint 21 04 00: 0 1 2
    ∷ refused (P-hint (0x22 ∷ 0x10 ∷ 0x04 ∷ 0x01 ∷ [])) 11
    ∷ planned (P-hint (0x21 ∷ 0x04 ∷ 0x00 ∷ [])) 16 3 (0 ∷ 1 ∷ 2 ∷ 9 ∷ [])
    -- 10 20 03 00 is written back as 12 02 20 10 03 00
    ∷ rewritten (0x10 ∷ 0x20 ∷ 0x03 ∷ 0x00 ∷ []) 6
    (0x12 ∷ 0x02 ∷ 0x20 ∷ 0x10 ∷ 0x03 ∷ 0x00 ∷ 9 ∷ [])
    ∷ []

pub data End : Type 0 where
  searched : SearchEnd → End
  wrote : WriteEnd → End

unfoldable pub outcome : Case → End
unfolding ruled written_back
outcome (planned job c n buffer) = searched (ruled (by_program job) (7 ∷ 7 ∷ []) (9 ∷ 9 ∷ 9 ∷ 9 ∷ []))
outcome (refused job n) = searched (ruled (by_program job) (7 ∷ 7 ∷ []) (9 ∷ 9 ∷ 9 ∷ 9 ∷ []))
outcome (rewritten rule n buffer) = wrote (written_back 3 3 rule (9 ∷ 9 ∷ 9 ∷ 9 ∷ 9 ∷ 9 ∷ 9 ∷ []))

unfoldable pub wanted : Case → End
wanted (planned job c n buffer) = searched (record { result = Ok (plan_of c n); table = 0 ∷ 0 ∷ []; plan = buffer })
wanted (refused job n) = searched (record { result = Err (refusal n 0); table = 0 ∷ 0 ∷ []; plan = 9 ∷ 9 ∷ 9 ∷ 9 ∷ [] })
wanted (rewritten rule n buffer) = wrote (record { result = Ok n; buffer = buffer })

pub all_as_wanted : map outcome cases ≡ map wanted cases
unfolding outcome wanted cases
all_as_wanted = refl
