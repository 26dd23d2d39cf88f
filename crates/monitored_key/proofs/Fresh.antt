-- Which kept writes of a value a read may have read, by the maps of kept writes.
use Rattle.std.proofs.Common.{ℕ, ◌≡◌, ◌≢◌, ◌⊎◌, ◌<◌, inl, inr, List, Option, Some, None, ap, sym, subst, ◌∙◌, refl, arith}
use Rattle.std.proofs.lemmas.Bool.{cases_lt}
use Rattle.std.proofs.lemmas.Option.{none-some, same_Some}
use Rattle.kept_writers.specs.Candidates.{AreCandidates, IsCandidate}
use Rattle.kept_writers.specs.Ends.{IsLeastEnd, IsLeastEndAfter}
use Rattle.kept_writers.specs.Written.{Written}
use Rattle.kept_writers.specs.declared.readable.Candidates.{Candidates}
use Rattle.kept_writers.specs.declared.readable.Candidates.TheVariants as candidates
use Rattle.kept_zones.specs.Overwriting.{IsOverwritten, Known}
use Rattle.monitored_key.specs.Indexes.{AreIndexed, begun_in, ended_in, written_or_none}
use Rattle.key_monitor.specs.KeptWrites.{HasNoneFresh, IsFreshBy, IsOneFresh, IsStaleAt, KeptWrite}
use Rattle.monitored_key.specs.Readable.{AreReadable, IsFreshWrite, IsOnlyWrite, IsStaleWrite, IsWriteOf}
use Rattle.monitored_key.proofs.Indexing.{unended}
use Rattle.monitored_key.proofs.Maps.{found}

module _ (writes : ℕ → Option KeptWrite) (values : List ℕ → Option Written) (owners : ℕ → Option ℕ)
    (are : AreIndexed writes values owners) (known : Known) (place : ℕ) (value : List ℕ) where
  -- a kept write of the value is among them
  begun_there : (n : ℕ) (kept : KeptWrite) → IsWriteOf known writes place value n kept → kept.end ≡ None
      → begun_in values value n ≡ Some kept.begin
  begun_there n kept is none = subst (λ v. begun_in values v n ≡ Some kept.begin) is.1 (are.begun n kept is.0 none)

  pub ended_there : (n end : ℕ) (kept : KeptWrite) → IsWriteOf known writes place value n kept → kept.end ≡ Some end
      → ended_in values value end ≡ Some n
  ended_there n end kept is e = subst (λ v. ended_in values v end ≡ Some n) is.1 (are.ended n end kept is.0 e)

  -- a candidate is a fresh write
  fresh_of : (n : ℕ) → IsCandidate (written_or_none (values value)).begins (written_or_none (values value)).ends known.zones place n
      → IsFreshWrite known writes place value n
  fresh_of n (inl h) = let b = found (begun_in values value n) h in (unended value b.0, (are.is_begun value n b.0 b.1, refl), tt)
  fresh_of n (inr h) =
      let k = are.is_ended value n h.0 h.1 in
      (k.0, (k.1, k.2), subst (IsFreshBy known place) (sym k.3) h.2)

  module _ (none_begun : (n : ℕ) → begun_in values value n ≡ None)
      (all_over : (end n : ℕ) → ended_in values value end ≡ Some n → IsOverwritten known.zones place end) where
    stale_by : (n : ℕ) (kept : KeptWrite) → IsWriteOf known writes place value n kept → (o : Option ℕ) → kept.end ≡ o
        → IsStaleAt known place kept
    stale_by n kept is None e = absurd (none-some kept.begin (sym (none_begun n) ∙ begun_there n kept is e))
    stale_by n kept is (Some end) e = (end, e, all_over end n (ended_there n end kept is e))

    pub none_fresh : HasNoneFresh known writes place value
    none_fresh n kept is same = stale_by n kept (is, same) kept.end refl

  module _ (number : ℕ) (one_begun : (n b : ℕ) → begun_in values value n ≡ Some b → n ≡ number)
      (others_over : (end n : ℕ) → ended_in values value end ≡ Some n → (n ≡ number) ⊎ IsOverwritten known.zones place end) where
    other_by : (n : ℕ) (kept : KeptWrite) → IsWriteOf known writes place value n kept → (o : Option ℕ) → kept.end ≡ o
        → (n ≡ number) ⊎ IsStaleAt known place kept
    other_by n kept is None e = inl (one_begun n kept.begin (begun_there n kept is e))
    other_by n kept is (Some end) e = elim (others_over end n (ended_there n end kept is e)) [
      | inl same ↦ inl same
      | inr over ↦ inr (end, e, over)
    ]

    pub one_fresh : IsFreshWrite known writes place value number
        → (kept : KeptWrite) × (kept.value ≡ value) × IsOneFresh known writes place number kept
    one_fresh f = (
      f.0,
      f.1.1,
      record {
        is = f.1.0;
        fresh = f.2;
        others = λ other its is same. other_by other its (is, same ∙ f.1.1) its.end refl;
      },
    )

  -- the candidates among the value's writes are those that a read may have read
  pub readable : (c : Candidates) → AreCandidates (written_or_none (values value)).begins (written_or_none (values value)).ends
      known.zones place c → AreReadable known writes place value c
  readable candidates.None h = none_fresh h.0 h.1
  readable (candidates.One number) h = one_fresh number h.1 h.2 (fresh_of number h.0)
  readable (candidates.Several one two) h = (fresh_of one h.0, fresh_of two h.1, h.2)

  -- ---- none is fresh
  module _ (none : HasNoneFresh known writes place value) where
    pub no_write : IsLeastEnd (written_or_none (values value)).ends None → (n : ℕ) (kept : KeptWrite)
        → IsWriteOf known writes place value n kept → ⊥
    no_write first n kept is =
        let s = none n kept is.0 is.1 in
        none-some n (sym (first s.0) ∙ ended_there n s.0 kept is s.1)

    stale_at : (n end : ℕ) → ended_in values value end ≡ Some n → IsStaleWrite known writes place value n
    stale_at n end at = let k = are.is_ended value n end at in (k.0, (k.1, k.2), none n k.0 k.1 k.2)

    -- two ends are those of two writes
    two_ends : (n m e f : ℕ) → ended_in values value e ≡ Some n → ended_in values value f ≡ Some m → e < f → n ≢ m
    two_ends n m e f at_n at_m less same =
        let k = are.is_ended value n e at_n in
        let l = are.is_ended value m f at_m in
        let here : k.0 ≡ l.0 = same_Some k.0 l.0 (sym k.1 ∙ (ap writes same ∙ l.1)) in
        let ends : e ≡ f = same_Some e f (sym k.3 ∙ (ap (λ (x : KeptWrite). x.end) here ∙ l.3)) in
        omega arith

    pub all_over : (n m e f : ℕ) → IsLeastEnd (written_or_none (values value)).ends (Some (e, n))
        → IsLeastEndAfter (written_or_none (values value)).ends e (Some (f, m))
        → IsStaleWrite known writes place value n × IsStaleWrite known writes place value m × (n ≢ m)
    all_over n m e f first next = (stale_at n e first.0, stale_at m f next.1, two_ends n m e f first.0 next.1 next.0)

    module _ (n e : ℕ) (first : IsLeastEnd (written_or_none (values value)).ends (Some (e, n)))
        (next : IsLeastEndAfter (written_or_none (values value)).ends e None) where
      only_one : IsOnlyWrite known writes place value n
      only_one other kept is =
          let s = none other kept is.0 is.1 in
          let at = ended_there other s.0 kept is s.1 in
          let low = first.1 s.0 other at in
          elim (cases_lt e s.0) [
            | inl later ↦ absurd (none-some other (sym (next s.0 later) ∙ at))
            | inr same ↦
                let here : s.0 ≡ e = omega arith in
                same_Some other n (sym at ∙ (ap (ended_in values value) here ∙ first.0))
          ]

      pub one_stale : IsOnlyWrite known writes place value n
          × ((kept : KeptWrite) × IsWriteOf known writes place value n kept × (kept.end ≡ Some e))
      one_stale = let k = are.is_ended value n e first.0 in (only_one, (k.0, (k.1, k.2), k.3))
