-- Which writes a read may have read, of a slot's and others.
use Rattle.std.proofs.Common.{ℕ, ◌≡◌, ◌≢◌, ◌≤◌, ◌⊎◌, inl, inr, List, ◌∷◌, Option, Some, None, IfSome, ap, sym, subst, ◌∙◌}
use Rattle.std.proofs.lemmas.Bool.{cases_eq}
use Rattle.std.proofs.lemmas.Option.{none-some, same_Some}
use Rattle.kept_writers.specs.declared.readable.Candidates.{Candidates}
use Rattle.kept_writers.specs.declared.readable.Candidates.TheVariants as candidates
use Rattle.kept_zones.specs.Overwriting.{IsOverwritten, Known, Overwrites}
use Rattle.key_monitor.specs.KeptWrites.{HasNoneFresh, IsFreshBy, IsStaleAt, KeptWrite}
use Rattle.monitored_key.specs.declared.stale.Stale.{Stale}
use Rattle.monitored_key.specs.declared.stale.Stale.TheVariants as stale
use Rattle.monitored_key.specs.Indexes.{AreHighEnds, AreOwned}
use Rattle.monitored_key.specs.Maps.{entry_at}
use Rattle.monitored_key.specs.Readable.{AreReadable, AreStale, IsFreshWrite, IsStaleWrite, IsWriteOf, WasOverwritten, with_candidate, with_stale}
use Rattle.monitored_key.specs.Slots.{put_before}
use Rattle.monitored_key.proofs.Front.{entry_here, entry_other}

module _ (known : Known) (begin : ℕ) (value : List ℕ) (w : ℕ × KeptWrite) (es : List (ℕ × KeptWrite)) (free : entry_at es w.0 ≡ None) where
  in_either : (n : ℕ) (kept : KeptWrite) → entry_at (w ∷ es) n ≡ Some kept → ((n ≡ w.0) × (w.1 ≡ kept)) ⊎ (entry_at es n ≡ Some kept)
  in_either n kept at = elim (cases_eq n w.0) [
    | inl same ↦ inl (same, same_Some w.1 kept (sym (entry_here w es) ∙ (ap (entry_at (w ∷ es)) (sym same) ∙ at)))
    | inr other ↦ inr (sym (entry_other w es n other) ∙ at)
  ]

  apart : (n : ℕ) (kept : KeptWrite) → entry_at es n ≡ Some kept → n ≢ w.0
  apart n kept at same = none-some kept (sym free ∙ (ap (entry_at es) (sym same) ∙ at))

  in_rest : (n : ℕ) (kept : KeptWrite) → entry_at es n ≡ Some kept → entry_at (w ∷ es) n ≡ Some kept
  in_rest n kept at = entry_other w es n (apart n kept at) ∙ at

  fresh_rest : (n : ℕ) → IsFreshWrite known (entry_at es) begin value n → IsFreshWrite known (entry_at (w ∷ es)) begin value n
  fresh_rest n f = (f.0, (in_rest n f.0 f.1.0, f.1.1), f.2)

  stale_rest : (n : ℕ) → IsStaleWrite known (entry_at es) begin value n → IsStaleWrite known (entry_at (w ∷ es)) begin value n
  stale_rest n f = (f.0, (in_rest n f.0 f.1.0, f.1.1), f.2)

  -- the slot's is none of them
  module _ (over : w.1.value ≡ value → IsStaleAt known begin w.1) where
    over_if : (its : KeptWrite) → w.1 ≡ its → its.value ≡ value → IsStaleAt known begin its
    over_if its same is = subst (λ (k : KeptWrite). IsStaleAt known begin k) same (over (ap (λ (k : KeptWrite). k.value) same ∙ is))

    pub passed_over : (c : Candidates) → AreReadable known (entry_at es) begin value c → AreReadable known (entry_at (w ∷ es)) begin value c
    passed_over candidates.None h = λ other its at is. elim (in_either other its at) [
      | inl e ↦ over_if its e.1 is
      | inr there ↦ h other its there is
    ]
    passed_over (candidates.One n) h = (
      h.0,
      h.1,
      record {
        is = in_rest n h.0 h.2.is;
        fresh = h.2.fresh;
        others = λ other its at is. elim (in_either other its at) [
          | inl e ↦ inr (over_if its e.1 (is ∙ h.1))
          | inr there ↦ h.2.others other its there is
        ];
      },
    )
    passed_over (candidates.Several one two) h = (fresh_rest one h.0, fresh_rest two h.1, h.2)

  -- it is one
  module _ (same : w.1.value ≡ value) (fresh : IsFreshBy known begin w.1.end) where
    here : IsFreshWrite known (entry_at (w ∷ es)) begin value w.0
    here = (w.1, (entry_here w es, same), fresh)

    pub added : (c : Candidates) → AreReadable known (entry_at es) begin value c
        → AreReadable known (entry_at (w ∷ es)) begin value (with_candidate w.0 c)
    added candidates.None h = (
      w.1,
      same,
      record {
        is = entry_here w es;
        fresh = fresh;
        others = λ other its at is. elim (in_either other its at) [
          | inl e ↦ inl e.0
          | inr there ↦ inr (h other its there (is ∙ same))
        ];
      },
    )
    added (candidates.One n) h = (
      here,
      fresh_rest n (h.0, (h.2.is, h.1), h.2.fresh),
      λ e. apart n h.0 h.2.is (sym e),
    )
    added (candidates.Several one two) h = (here, fresh_rest one h.0, λ e. apart one h.0.0 h.0.1.0 (sym e))

  -- ---- none is fresh

  pub stale_over : w.1.value ≢ value → (c : Stale) → AreStale known (entry_at es) begin value c
      → AreStale known (entry_at (w ∷ es)) begin value c
  stale_over differs stale.None h = λ n kept is. elim (in_either n kept is.0) [
    | inl e ↦ differs (ap (λ (k : KeptWrite). k.value) e.1 ∙ is.1)
    | inr there ↦ h n kept (there, is.1)
  ]
  stale_over differs (stale.One end n) h = (
    λ other kept is. elim (in_either other kept is.0) [
      | inl e ↦ absurd (differs (ap (λ (k : KeptWrite). k.value) e.1 ∙ is.1))
      | inr there ↦ h.0 other kept (there, is.1)
    ],
    (h.1.0, (in_rest n h.1.0 h.1.1.0, h.1.1.1), h.1.2),
  )
  stale_over differs (stale.Several one two) h = (stale_rest one h.0, stale_rest two h.1, h.2)

  module _ (same : w.1.value ≡ value) (none : HasNoneFresh known (entry_at (w ∷ es)) begin value) where
    stale_here : IsStaleWrite known (entry_at (w ∷ es)) begin value w.0
    stale_here = (w.1, (entry_here w es, same), none w.0 w.1 (entry_here w es) same)

    -- so it has an end
    pub has_end : w.1.end ≡ None → ⊥
    has_end e = let s = none w.0 w.1 (entry_here w es) same in none-some s.0 (sym e ∙ s.1)

    pub stale_more : (end : ℕ) → w.1.end ≡ Some end → (c : Stale) → AreStale known (entry_at es) begin value c
        → AreStale known (entry_at (w ∷ es)) begin value (with_stale end w.0 c)
    stale_more end is stale.None h = (
      λ other kept at. elim (in_either other kept at.0) [
        | inl e ↦ e.0
        | inr there ↦ absurd (h other kept (there, at.1))
      ],
      (w.1, (entry_here w es, same), is),
    )
    stale_more end is (stale.One e n) h =
        let at = in_rest n h.1.0 h.1.1.0 in (
          stale_here,
          (h.1.0, (at, h.1.1.1), none n h.1.0 at h.1.1.1),
          λ f. apart n h.1.0 h.1.1.0 (sym f),
        )
    stale_more end is (stale.Several one two) h = (stale_here, stale_rest one h.0, λ f. apart one h.0.0 h.0.1.0 (sym f))

-- none is fresh among the others either
pub none_rest : (known : Known) (begin : ℕ) (value : List ℕ) (slot : Option (ℕ × KeptWrite)) (es : List (ℕ × KeptWrite))
    → IfSome slot (λ w. entry_at es w.0 ≡ None) → HasNoneFresh known (entry_at (put_before slot es)) begin value
    → HasNoneFresh known (entry_at es) begin value
none_rest known begin value None es free none = none
none_rest known begin value (Some w) es free none = λ n kept at is. none n kept (in_rest known begin value w es free n kept at) is

-- ---- why the only write of a value can't have been read

module _ (known : Known) (writes : ℕ → Option KeptWrite) (owners : ℕ → Option ℕ) (own : AreOwned writes owners) (begin : ℕ) (value : List ℕ)
    (n end : ℕ) (one : (kept : KeptWrite) × IsWriteOf known writes begin value n kept × (kept.end ≡ Some end)) where
  pub one_high : AreHighEnds owners known.floor → known.floor ≤ end
  one_high high = high end n (own.owned n end one.0 one.1.0 one.2)

  pub one_over : HasNoneFresh known writes begin value → IsOverwritten known.zones begin end
  one_over none =
      let s = none n one.0 one.1.0 one.1.1 in
      subst (IsOverwritten known.zones begin) (same_Some s.0 end (sym s.1 ∙ one.2)) s.2

  pub was_over : (over by : ℕ) → Overwrites known.zones begin over end → owners over ≡ Some by
      → WasOverwritten known writes begin value n by
  was_over over by o owned = let b = own.owner over by owned in record {
    kept = one.0;
    is = one.1;
    end = end;
    ended = one.2;
    over = b.0;
    is_over = b.1;
    over_end = over;
    over_ended = b.2;
    overwrites = o;
  }
