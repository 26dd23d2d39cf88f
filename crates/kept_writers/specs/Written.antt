-- The kept writes of one value, and how they change.
use Rattle.std.specs.Prelude.{ℕ, ◌≡◌, ◌≢◌, ◌⊎◌, List, Some, None, IsSome}
use Rattle.kept_writers.specs.Candidates.{begin_at}
use Rattle.kept_writers.specs.Ends.{number_at}

-- what contracts see of them: by number where those without an end began, and by end the numbers of
-- the others
pub record Written : Type 0 where
  pub begins : List (ℕ × ℕ)
  pub ends : List (ℕ × ℕ)

-- there are none
pub record AreNone (written : Written) : Type 0 where
  pub begins : (number : ℕ) → begin_at written.begins number ≡ None
  pub ends : (end : ℕ) → number_at written.ends end ≡ None

-- there is one
abbrev pub AreSome : Written → Type 0
AreSome written = ((number : ℕ) × IsSome (begin_at written.begins number))
    ⊎ ((end : ℕ) × IsSome (number_at written.ends end))

-- none of them has that number
pub record IsNew (written : Written) (number : ℕ) : Type 0 where
  pub unended : begin_at written.begins number ≡ None
  pub other : (end : ℕ) → number_at written.ends end ≡ Some number → ⊥

-- with that one more, which began at the place
pub record HasBegin (old : Written) (number place : ℕ) (new : Written) : Type 0 where
  pub here : begin_at new.begins number ≡ Some place
  pub others : (other : ℕ) → other ≢ number → begin_at new.begins other ≡ begin_at old.begins other
  pub ends : new.ends ≡ old.ends

-- that one has the end
pub record HasEnd (old : Written) (number end : ℕ) (new : Written) : Type 0 where
  pub here : number_at new.ends end ≡ Some number
  pub others : (other : ℕ) → other ≢ end → number_at new.ends other ≡ number_at old.ends other
  pub gone : begin_at new.begins number ≡ None
  pub begins : (other : ℕ) → other ≢ number → begin_at new.begins other ≡ begin_at old.begins other

-- without the one of that end
pub record LacksEnd (old : Written) (end : ℕ) (new : Written) : Type 0 where
  pub here : number_at new.ends end ≡ None
  pub others : (other : ℕ) → other ≢ end → number_at new.ends other ≡ number_at old.ends other
  pub begins : new.begins ≡ old.begins
