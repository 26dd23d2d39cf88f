-- Counts of failures.
use Rattle.std.specs.Prelude.{ℕ, ◌≡◌, ◌≢◌, ◌<◌, ◌+◌, ◌-◌, ◌^◌, ◌⊎◌, List, [], min, Result}
use Rattle.std.specs.Prelude.{MatchResult}

-- one failure was counted; the count stays at its greatest value
abbrev pub IsOneMore : ℕ → ℕ → Type 0
IsOneMore old new = new ≡ min (old + 1) (2 ^ 64 - 1)

-- a write that took nothing of a text that isn't empty is a failure, and no other is
abbrev pub CountsTaken : ℕ → List ℕ → ℕ → ℕ → Type 0
CountsTaken taken text old new =
    (taken ≡ 0 → text ≢ [] → IsOneMore old new) × ((0 < taken) ⊎ (text ≡ []) → new ≡ old)

-- between two states of a device no failure was counted, or, after an error, one more
abbrev pub CountsErrors : {S X E : Type 0} → (S → ℕ) → S → S → Result X E → Type 0
CountsErrors failures old new result = MatchResult result (λ _. failures new
    ≡ failures old) (λ _. IsOneMore (failures old) (failures new))

-- between two states of a reader so many more bytes were given; an error gives none
abbrev pub CountsBytes : {S E : Type 0} → (S → ℕ) → S → S → Result ℕ E → Type 0
CountsBytes given old new result =
    MatchResult result (λ n. given new ≡ given old + n) (λ _. given new ≡ given old)

-- a write that took nothing of a text that isn't empty counts one more, and so does an error
abbrev pub CountsWrite : {S E : Type 0} → (S → ℕ) → S → S → List ℕ → Result ℕ E → Type 0
CountsWrite failures old new text result =
    MatchResult result (λ n. CountsTaken n text (failures old) (failures new))
    (λ _. IsOneMore (failures old) (failures new))
