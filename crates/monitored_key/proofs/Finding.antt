-- What the maps of kept writes say of one value.
use Rattle.std.proofs.Common.{ℕ, ◌≡◌, List, Option, Some, None, ap, sym, ◌∙◌, refl}
use Rattle.std.proofs.lemmas.Option.{none-some}
use Rattle.kept_writers.specs.Candidates.{begin_at}
use Rattle.kept_writers.specs.Ends.{number_at}
use Rattle.kept_writers.specs.Written.{IsNew, Written}
use Rattle.monitored_key.specs.Indexes.{AreIndexed, begun_in, ended_in, written_or_none}
use Rattle.key_monitor.specs.KeptWrites.{KeptWrite}
use Rattle.monitored_key.proofs.Maps.{none_unless}

begun_by : (o : Option Written) (n b : ℕ) → begin_at (written_or_none o).begins n ≡ Some b
    → (w : Written) × (o ≡ Some w) × (begin_at w.begins n ≡ Some b)
begun_by None n b e = absurd (none-some b e)
begun_by (Some w) n b e = (w, refl, e)

ended_by : (o : Option Written) (n e : ℕ) → number_at (written_or_none o).ends e ≡ Some n
    → (w : Written) × (o ≡ Some w) × (number_at w.ends e ≡ Some n)
ended_by None n e at = absurd (none-some n at)
ended_by (Some w) n e at = (w, refl, at)

module _ (values : List ℕ → Option Written) (value : List ℕ) where
  pub begun_at : (n b : ℕ) → begun_in values value n ≡ Some b
      → (w : Written) × (values value ≡ Some w) × (begin_at w.begins n ≡ Some b)
  begun_at n b e = begun_by (values value) n b e

  pub ended_at : (n e : ℕ) → ended_in values value e ≡ Some n
      → (w : Written) × (values value ≡ Some w) × (number_at w.ends e ≡ Some n)
  ended_at n e at = ended_by (values value) n e at

  -- what the value's writes have
  pub begun_of : (w : Written) → values value ≡ Some w → (n : ℕ) → begun_in values value n ≡ begin_at w.begins n
  begun_of w e n = ap (λ o. begin_at (written_or_none o).begins n) e

  pub ended_of : (w : Written) → values value ≡ Some w → (end : ℕ) → ended_in values value end ≡ number_at w.ends end
  ended_of w e end = ap (λ o. number_at (written_or_none o).ends end) e

-- a number that isn't kept is none of the value's
pub is_new : (writes : ℕ → Option KeptWrite) (values : List ℕ → Option Written) (owners : ℕ → Option ℕ)
    → AreIndexed writes values owners → (number : ℕ) → writes number ≡ None → (value : List ℕ) (w : Written)
    → values value ≡ Some w → IsNew w number
is_new writes values owners are number free value w at = record {
  unended = none_unless (begin_at w.begins number) (λ b e.
      none-some _ (sym free ∙ are.is_begun value number b (begun_of values value w at number ∙ e)));
  other = λ end e.
      let k = are.is_ended value number end (ended_of values value w at end ∙ e) in
      none-some k.0 (sym free ∙ k.1);
}

-- no write of the value has an end that no write has
pub free_end : (writes : ℕ → Option KeptWrite) (values : List ℕ → Option Written) (owners : ℕ → Option ℕ)
    → AreIndexed writes values owners → (end : ℕ) → owners end ≡ None → (value : List ℕ) (w : Written)
    → values value ≡ Some w → number_at w.ends end ≡ None
free_end writes values owners are end free value w at = none_unless (number_at w.ends end) (λ n e.
    let k = are.is_ended value n end (ended_of values value w at end ∙ e) in
    none-some n (sym free ∙ are.owned n end k.0 k.1 k.3))
