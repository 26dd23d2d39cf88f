-- Of each kept settled family a call was under way at one place.
use Rattle.std.proofs.Common.{ℕ, ◌≡◌, ◌≢◌, ◌≤◌, inl, inr, List, sym, ap, subst, refl, arith}
use Rattle.std.proofs.lemmas.Bool.{cases_lt}
use Rattle.recorder.specs.declared.part.Call.{Call}
use Rattle.recorder.specs.Parts.{IsSequence}
use Rattle.kept_families.specs.Forgotten.{IsSettled}
use Rattle.kept_families.specs.SoundTables.{AreReads}
use Rattle.kept_families.specs.UnderWay.{IsKeptSettled, IsLatest, WasUnderWay}
use Rattle.kept_families.proofs.ByRows.{precede, begun_before, one_or_two}

module _ (part : List Call) (Reads : Call → Call → Type 0) (sequence : IsSequence part) (sound : AreReads part Reads) (row place : ℕ) (latest : IsLatest part Reads row place) where
  -- a settled call of the family began by the place, if it lasted that long it was under way
  by_call : (u : Call) → IsKeptSettled part Reads row u → (s : IsSettled part Reads row u) → place ≤ s.ended.response.place → WasUnderWay part Reads row place u
  by_call u kept s long = record {
    call = s.call;
    of = s.of;
    ended = s.ended;
    began = latest.greatest u s.call.invoked kept (record { call = s.call; member = record { of = s.of; there = inr s.ended }; at = refl });
    lasted = long;
  }

  -- else the latest family forgets it
  other : (u : Call) → latest.w ≢ u → IsKeptSettled part Reads row u → WasUnderWay part Reads row place u
  other u apart kept =
      let s = kept.1 in
      elim (cases_lt s.ended.response.place place) [
        | inr h ↦ by_call u kept s h
        | inl h ↦
            let b = latest.begins in
            absurd (kept.0.known (
              latest.w,
              record {
                apart = λ e. apart (sym e);
                precedes = precede part Reads row u latest.w s.call b.call s.of b.member s.ended (omega (arith, b.at));
                settled = latest.kept.1;
              },
            ))
      ]

  own : WasUnderWay part Reads row place latest.w
  own =
      let b = latest.begins in
      let s = latest.kept.1 in
      elim b.member.there [
        | inl same ↦
            let low = begun_before part Reads sequence sound row latest.w s.call s.of s.ended in
            let at : b.call.invoked ≡ latest.w.invoked = ap (λ (c : Call). c.invoked) same in
            by_call latest.w latest.kept s (omega (arith, b.at))
        | inr a ↦
            let later = sequence.responses b.call a.response b.member.of.recorded a.responds in
            record { call = b.call; of = b.member.of; ended = a; began = omega (arith, b.at); lasted = omega (arith, b.at) }
      ]

  pub under_way : (u : Call) → IsKeptSettled part Reads row u → WasUnderWay part Reads row place u
  under_way u kept = elim (one_or_two part Reads sequence sound latest.w u latest.kept.0.recorded kept.0.recorded) [
    | inl same ↦ subst (WasUnderWay part Reads row place) same own
    | inr apart ↦ other u apart kept
  ]
