-- The verdicts on many orders, and which worker makes which.
use Rattle.std.specs.Prelude.{ℕ, ◌≡◌, ◌<◌, ◌+◌, ◌*◌, List, Some, length, slice_get}
use Rattle.tag.specs.declared.numbers.OpId.{OpId}
use Rattle.recorder.specs.declared.part.Call.{Call}
use Rattle.certificate_check.specs.Verdicts.{IsVerdict}
use Rattle.certificate_check.specs.declared.verdict.Verdict.{Verdict}
use Rattle.parallel_keys.specs.declared.check.KeyVerdict.{KeyVerdict}

module _ (parts : List (List Call)) (orders : List (List OpId)) where
  -- the verdict is that of the part and the order at that index
  pub record IsVerdictAt (index : ℕ) (verdict : Verdict) : Type 0 where
    pub part : List Call
    pub order : List OpId
    pub part_at : slice_get parts index ≡ Some part
    pub order_at : slice_get orders index ≡ Some order
    pub checked : IsVerdict part order verdict

  -- one verdict for each index, in order of index
  pub record AreVerdicts (verdicts : List KeyVerdict) : Type 0 where
    pub all : length verdicts ≡ length parts
    pub each : (i : ℕ) (one : KeyVerdict) → slice_get verdicts i ≡ Some one → (one.index ≡ i)
        × IsVerdictAt i one.verdict

  -- the verdicts of worker w of k: those at the indexes w, w + k, w + 2k and so on, in this order
  pub record AreOfWorker (w k : ℕ) (verdicts : List Verdict) : Type 0 where
    pub all : (n : ℕ) → w + n * k < length parts → n < length verdicts
    pub each : (n : ℕ) (verdict : Verdict) → slice_get verdicts n ≡ Some verdict
        → IsVerdictAt (w + n * k) verdict

  -- lists of verdicts, each of its worker of k
  abbrev pub AreTheirs : ℕ → List (List Verdict) → Type 0
  AreTheirs k lists = (w : ℕ) (verdicts : List Verdict) → slice_get lists w ≡ Some verdicts
      → AreOfWorker w k verdicts

  -- those of all k workers
  pub record AreLists (k : ℕ) (lists : List (List Verdict)) : Type 0 where
    pub all : length lists ≡ k
    pub each : AreTheirs k lists

  -- those of the workers up to the last of these
  pub record AreFirstLists (k last : ℕ) (lists : List (List Verdict)) : Type 0 where
    pub all : length lists ≡ last + 1
    pub each : AreTheirs k lists
