-- Which of the kept writes of a value a read may have read, and why it can't have read any.
use Rattle.std.specs.Prelude.{ℕ, ◌≡◌, ◌≢◌, List, Option, Some}
use Rattle.kept_writers.specs.declared.readable.Candidates.{Candidates}
use Rattle.kept_writers.specs.declared.readable.Candidates.TheVariants as candidates
use Rattle.kept_zones.specs.Overwriting.{Known, Overwrites}
use Rattle.key_monitor.specs.KeptWrites.{HasNoneFresh, IsFreshBy, IsOneFresh, IsStaleAt, KeptWrite}
use Rattle.monitored_key.specs.declared.judged.Refusal.{Refusal}
use Rattle.monitored_key.specs.declared.judged.Refusal.TheVariants as refusal
use Rattle.monitored_key.specs.declared.stale.Stale.{Stale}
use Rattle.monitored_key.specs.declared.stale.Stale.TheVariants as stale

-- the candidates with that write
abbrev pub with_candidate : ℕ → Candidates → Candidates
with_candidate number candidates.None = candidates.One number
with_candidate number (candidates.One other) = candidates.Several number other
with_candidate number (candidates.Several other two) = candidates.Several number other

-- the writes with that one, which ended first there
abbrev pub with_stale : ℕ → ℕ → Stale → Stale
with_stale end number stale.None = stale.One end number
with_stale end number (stale.One e other) = stale.Several number other
with_stale end number (stale.Several other two) = stale.Several number other

module _ (known : Known) (writes : ℕ → Option KeptWrite) (begin : ℕ) (value : List ℕ) where
  -- it is a kept write of the value
  abbrev pub IsWriteOf : ℕ → KeptWrite → Type 0
  IsWriteOf number kept = (writes number ≡ Some kept) × (kept.value ≡ value)

  -- a read that began there may have read that write
  abbrev pub IsFreshWrite : ℕ → Type 0
  IsFreshWrite number = (kept : KeptWrite) × IsWriteOf number kept × IsFreshBy known begin kept.end

  -- a read that began there can't have read that write
  abbrev pub IsStaleWrite : ℕ → Type 0
  IsStaleWrite number = (kept : KeptWrite) × IsWriteOf number kept × IsStaleAt known begin kept

  -- it is the only one of the value
  abbrev pub IsOnlyWrite : ℕ → Type 0
  IsOnlyWrite number =
      (other : ℕ) (kept : KeptWrite) → IsWriteOf other kept → other ≡ number

  -- the family of one overwrote that of the other before the read began
  pub record WasOverwritten (number by : ℕ) : Type 0 where
    pub kept : KeptWrite
    pub is : IsWriteOf number kept
    pub end : ℕ
    pub ended : kept.end ≡ Some end
    pub over : KeptWrite
    pub is_over : writes by ≡ Some over
    pub over_end : ℕ
    pub over_ended : over.end ≡ Some over_end
    pub overwrites : Overwrites known.zones begin over_end end

  -- of the kept writes of the value a read that began there may have read none, one, or several
  abbrev pub AreReadable : Candidates → Type 0
  AreReadable candidates.None = HasNoneFresh known writes begin value
  AreReadable (candidates.One number) =
      (kept : KeptWrite) × (kept.value ≡ value) × IsOneFresh known writes begin number kept
  AreReadable (candidates.Several one two) = IsFreshWrite one × IsFreshWrite two × (one ≢ two)

  -- why it can't have read any
  abbrev pub IsWhyNone : Refusal → Type 0
  IsWhyNone refusal.NoWrite = (number : ℕ) (kept : KeptWrite) → IsWriteOf number kept → ⊥
  IsWhyNone (refusal.Overwritten number by) = IsOnlyWrite number × WasOverwritten number by
  IsWhyNone (refusal.AllOverwritten one two) = HasNoneFresh known writes begin value
      × IsStaleWrite one × IsStaleWrite two × (one ≢ two)
  IsWhyNone (refusal.LateNothing place) = ⊥

  -- of the kept writes of the value, none of which it can have read: none, the one, or two
  abbrev pub AreStale : Stale → Type 0
  AreStale stale.None = (number : ℕ) (kept : KeptWrite) → IsWriteOf number kept → ⊥
  AreStale (stale.One end number) = IsOnlyWrite number
      × ((kept : KeptWrite) × IsWriteOf number kept × (kept.end ≡ Some end))
  AreStale (stale.Several one two) = IsStaleWrite one × IsStaleWrite two × (one ≢ two)
