-- The zones, the kept writes and the open reads still fit each other after a change.
use Rattle.std.proofs.Common.{ℕ, ◌≡◌, ◌≢◌, ◌≤◌, ◌+◌, inl, inr, Option, Some, None, IsSome, max, ap, sym, subst, ◌∙◌, arith}
use Rattle.std.proofs.lemmas.Bool.{cases_eq, cases_lt}
use Rattle.std.proofs.lemmas.Option.{none-some, same_Some}
use Rattle.kept_zones.specs.Overwriting.{AreBefore, HasZone, IsFreeTo, IsOverwritten, Known, LacksZone, NoneSpent, last_of}
use Rattle.key_monitor.specs.KeptWrites.{KeptWrite}
use Rattle.monitored_key.specs.Maps.{Lacks, Sets}
use Rattle.monitored_key.specs.Together.{AreHigh, StandTogether}
use Rattle.monitored_key.proofs.Indexing.{with_end}
use Rattle.monitored_key.proofs.Maps.{there}

-- zones before a row are before a later one
pub before_later : (known : Known) (next place : ℕ) → AreBefore known.zones next → next ≤ place → AreBefore known.zones place
before_later known next place before le w last at = let b = before w last at in (omega (arith, b.0), omega (arith, b.1))

-- a read that no zone keeps from a write crosses none
pub free_to : (known : Known) (end begin : ℕ) → (IsOverwritten known.zones begin end → ⊥) → IsFreeTo known.zones end begin
free_to known end begin fresh w l apart at less back = fresh (w, record { last = l; is = at; apart = apart; early = back; later = less })

module _ (known : Known) (writes : ℕ → Option KeptWrite) (owners opens : ℕ → Option ℕ) (next number : ℕ)
    (t : StandTogether known writes owners opens next number) where
  pub stand_later : (place : ℕ) → next ≤ place → StandTogether known writes owners opens place number
  stand_later place le = record {
    zoned = t.zoned;
    owned = t.owned;
    before = before_later known next place t.before le;
    floor = (let low = t.floor in omega arith);
    begun = λ n kept at. (let low = t.begun n kept at in omega arith);
    numbered = t.numbered;
    opened = λ begin n at. (let low = t.opened begin n at in omega arith);
  }

  -- a read is open no more
  pub stand_closed : (begin : ℕ) (opens' : ℕ → Option ℕ) → Lacks opens begin opens' → StandTogether known writes owners opens' next number
  stand_closed begin opens' lacks = record {
    zoned = t.zoned;
    owned = t.owned;
    before = t.before;
    floor = t.floor;
    begun = t.begun;
    numbered = t.numbered;
    opened = λ b n at. elim (cases_eq b begin) [
      | inl same ↦ absurd (none-some n (sym lacks.here ∙ (ap opens' (sym same) ∙ at)))
      | inr apart ↦ t.opened b n (sym (lacks.others b apart) ∙ at)
    ];
  }

  module _ (place : ℕ) (le : next ≤ place) where
    le_more : next ≤ place + 1
    le_more = omega arith

    -- a read begins
    pub stand_opened : (n : ℕ) (opens' : ℕ → Option ℕ) → Sets opens place n opens'
        → StandTogether known writes owners opens' (place + 1) number
    stand_opened n opens' sets = let l = stand_later (place + 1) le_more in record {
      zoned = l.zoned;
      owned = l.owned;
      before = l.before;
      floor = l.floor;
      begun = l.begun;
      numbered = l.numbered;
      opened = λ b m at. elim (cases_eq b place) [
        | inl same ↦ omega arith
        | inr apart ↦ l.opened b m (sym (sets.others b apart) ∙ at)
      ];
    }

    -- a write begins
    pub stand_written : (n : ℕ) → number ≤ n → (kept : KeptWrite) → kept.begin ≡ place → kept.end ≡ None → (writes' : ℕ → Option KeptWrite)
        → Sets writes n kept writes' → StandTogether known writes' owners opens (place + 1) (n + 1)
    stand_written n rises kept begun unended writes' sets =
        let l = stand_later (place + 1) le_more in
        let here = λ (m : ℕ) (k : KeptWrite) (at : writes' m ≡ Some k) (same : m ≡ n).
        same_Some kept k (sym sets.here ∙ (ap writes' (sym same) ∙ at)) in
        record {
          zoned = λ m end k at is. elim (cases_eq m n) [
            | inl same ↦ absurd (none-some end (sym unended ∙ (ap (λ (x : KeptWrite). x.end) (here m k at same) ∙ is)))
            | inr apart ↦ l.zoned m end k (sym (sets.others m apart) ∙ at) is
          ];
          owned = l.owned;
          before = l.before;
          floor = l.floor;
          begun = λ m k at. elim (cases_eq m n) [
            | inl same ↦ (let is : kept.begin ≡ k.begin = ap (λ (x : KeptWrite). x.begin) (here m k at same) in omega arith)
            | inr apart ↦ l.begun m k (sym (sets.others m apart) ∙ at)
          ];
          numbered = λ m k at. elim (cases_eq m n) [
            | inl same ↦ omega arith
            | inr apart ↦ (let low = t.numbered m k (sym (sets.others m apart) ∙ at) in omega arith)
          ];
          opened = l.opened;
        }

    -- a family ends first
    module _ (n last : ℕ) (kept : KeptWrite) (at_n : writes n ≡ Some kept) (begun : last ≤ place) (known' : Known)
        (zone : HasZone known.zones place last known'.zones) (same_floor : known'.floor ≡ known.floor) (writes' : ℕ → Option KeptWrite)
        (sets : Sets writes n (with_end kept place) writes') (owners' : ℕ → Option ℕ) (owns : Sets owners place n owners') where
      end_here : (m : ℕ) (k : KeptWrite) → writes' m ≡ Some k → m ≡ n → with_end kept place ≡ k
      end_here m k at same = same_Some (with_end kept place) k (sym sets.here ∙ (ap writes' (sym same) ∙ at))

      still_zone : (end : ℕ) → IsSome (last_of known.zones end) → IsSome (last_of known'.zones end)
      still_zone end is = elim (cases_eq end place) [
        | inl same ↦ there (last_of known'.zones end) last (ap (last_of known'.zones) same ∙ zone.here)
        | inr apart ↦ subst IsSome (sym (zone.others end apart)) is
      ]

      pub stand_ended : StandTogether known' writes' owners' opens (place + 1) number
      stand_ended = record {
        zoned = λ m end k at is. elim (cases_eq m n) [
          | inl same ↦
              let e : place ≡ end = same_Some place end (ap (λ (x : KeptWrite). x.end) (end_here m k at same) ∙ is) in
              there (last_of known'.zones end) last (ap (last_of known'.zones) (sym e) ∙ zone.here)
          | inr apart ↦ still_zone end (t.zoned m end k (sym (sets.others m apart) ∙ at) is)
        ];
        owned = λ end l at. elim (cases_eq end place) [
          | inl same ↦ there (owners' end) n (ap owners' same ∙ owns.here)
          | inr apart ↦ subst IsSome (sym (owns.others end apart)) (t.owned end l (sym (zone.others end apart) ∙ at))
        ];
        before = λ w l at. elim (cases_eq w place) [
          | inl same ↦ (let is : last ≡ l = same_Some last l (sym zone.here ∙ (ap (last_of known'.zones) (sym same) ∙ at)) in (
            omega
                arith,
            omega arith,
          ))
          | inr apart ↦ (let b = t.before w l (sym (zone.others w apart) ∙ at) in (omega (arith, b.0), omega (arith, b.1)))
        ];
        floor = (let low = t.floor in omega arith);
        begun = λ m k at. elim (cases_eq m n) [
          | inl same ↦
              let is : kept.begin ≡ k.begin = ap (λ (x : KeptWrite). x.begin) (end_here m k at same) in
              let low = t.begun n kept at_n in
              omega arith
          | inr apart ↦ (let low = t.begun m k (sym (sets.others m apart) ∙ at) in omega arith)
        ];
        numbered = λ m k at. elim (cases_eq m n) [
          | inl same ↦ (let low = t.numbered n kept at_n in omega arith)
          | inr apart ↦ t.numbered m k (sym (sets.others m apart) ∙ at)
        ];
        opened = λ b m at. (let low = t.opened b m at in omega arith);
      }

    -- a call of a family began later than was known
    pub stand_raised : (end begin last : ℕ) → last_of known.zones end ≡ Some last → begin ≤ place → (known' : Known)
        → HasZone known.zones end (max last begin) known'.zones → known'.floor ≡ known.floor
        → StandTogether known' writes owners opens (place + 1) number
    stand_raised end begin last at_end early known' zone same_floor = let l = stand_later (place + 1) le_more in record {
      zoned = λ m e k at is. elim (cases_eq e end) [
        | inl same ↦ there (last_of known'.zones e) (max last begin) (ap (last_of known'.zones) same ∙ zone.here)
        | inr apart ↦ subst IsSome (sym (zone.others e apart)) (t.zoned m e k at is)
      ];
      owned = λ e k at. elim (cases_eq e end) [
        | inl same ↦ subst (λ (x : ℕ). IsSome (owners x)) (sym same) (t.owned end last at_end)
        | inr apart ↦ t.owned e k (sym (zone.others e apart) ∙ at)
      ];
      before = λ w k at. elim (cases_eq w end) [
        | inl same ↦
            let is : max last begin ≡ k = same_Some (max last begin) k (sym zone.here ∙ (ap (last_of known'.zones) (sym same) ∙ at)) in
            let b = t.before end last at_end in
            let low = b.0 in
            let lower = b.1 in
            (omega arith, omega arith)
        | inr apart ↦ l.before w k (sym (zone.others w apart) ∙ at)
      ];
      floor = (let low = t.floor in omega arith);
      begun = l.begun;
      numbered = l.numbered;
      opened = l.opened;
    }

  -- a family goes
  pub stand_gone : (end last n : ℕ) → last_of known.zones end ≡ Some last → (known' : Known) → LacksZone known.zones end known'.zones
      → known'.floor ≡ max known.floor last → ((m : ℕ) (k : KeptWrite) → writes m ≡ Some k → k.end ≡ Some end → m ≡ n)
      → (writes' : ℕ → Option KeptWrite) → Lacks writes n writes' → (owners' : ℕ → Option ℕ) → Lacks owners end owners'
      → StandTogether known' writes' owners' opens next number
  stand_gone end last n at_end known' lacks floor only writes' gone owners' free =
      let other = λ (m : ℕ) (k : KeptWrite) (at : writes' m ≡ Some k) (same : m ≡ n).
      none-some k (sym gone.here ∙ (ap writes' (sym same) ∙ at)) in
      let was : (m : ℕ) (k : KeptWrite) → writes' m ≡ Some k → writes m ≡ Some k = λ m k at. sym (gone.others m (other m k at)) ∙ at in
      let apart : (w l : ℕ) → last_of known'.zones w ≡ Some l → w ≢ end = λ w l at same.
      none-some l (sym lacks.here ∙ (ap (last_of known'.zones) (sym same) ∙ at)) in
      record {
        zoned = λ m e k at is. subst IsSome
            (sym (lacks.others e (λ same. other m k at (only m k (was m k at) (is ∙ ap Some same)))))
            (t.zoned m e k (was m k at) is);
        owned = λ e l at. subst IsSome (sym (free.others e (apart e l at))) (t.owned e l (sym (lacks.others e (apart e l at)) ∙ at));
        before = λ w l at. t.before w l (sym (lacks.others w (apart w l at)) ∙ at);
        floor = (let low = t.floor in let b = (t.before end last at_end).1 in omega arith);
        begun = λ m k at. t.begun m k (was m k at);
        numbered = λ m k at. t.numbered m k (was m k at);
        opened = t.opened;
      }

-- ---- no zone ended before the floor

pub high_ended : (known known' : Known) (place last : ℕ) → AreHigh known → HasZone known.zones place last known'.zones
    → known'.floor ≡ known.floor → known.floor ≤ place → AreHigh known'
high_ended known known' place last high zone same low end l at = elim (cases_eq end place) [
  | inl here ↦ omega arith
  | inr apart ↦ (let is = high end l (sym (zone.others end apart) ∙ at) in omega arith)
]

pub high_raised : (known known' : Known) (end last new : ℕ) → AreHigh known → last_of known.zones end ≡ Some last
    → HasZone known.zones end new known'.zones → known'.floor ≡ known.floor → AreHigh known'
high_raised known known' end last new high at_end zone same e l at = elim (cases_eq e end) [
  | inl here ↦ (let is = high end last at_end in omega arith)
  | inr apart ↦ (let is = high e l (sym (zone.others e apart) ∙ at) in omega arith)
]

pub high_after : (known : Known) (place : ℕ) → NoneSpent known place → AreHigh known
high_after known place none end last at = elim (cases_lt end known.floor) [
  | inl less ↦ absurd (none end last at (inl less))
  | inr high ↦ high
]
