-- What is overwritten or forgotten, by first ends and last begins.
use Rattle.std.proofs.Common.{ℕ, ◌≢◌, ◌<◌, inl, inr, List, Some, refl, arith}
use Rattle.recorder.specs.declared.part.Call.{Call}
use Rattle.value_order.specs.Zones.{IsFirstEnd, IsLastBegin}
use Rattle.kept_families.specs.Cuts.{IsCut, IsCutFor}
use Rattle.kept_families.specs.Forgotten.{IsForgottenBy, IsForgotten}
use Rattle.kept_families.specs.Open.{IsFirstOpen}
use Rattle.kept_families.specs.SoundTables.{IsOverwrittenBy}
use Rattle.kept_families.proofs.ByRows.{precede, ended_first}

module _ (part : List Call) (Reads : Call → Call → Type 0) (row : ℕ) where
  pub overwritten_from : (u w : Call) (place end_u end_w last : ℕ) → u ≢ w → IsFirstEnd part Reads row u (Some end_u) → IsFirstEnd part Reads row w (Some end_w) → IsLastBegin part Reads row w last → end_u < last → end_w < place → IsOverwrittenBy part Reads row place w u
  overwritten_from u w place end_u end_w last apart of_u of_w begins less early =
      let e = of_u.0 in
      let f = of_w.0 in
      let l = begins.0 in
      record {
        apart = apart;
        precedes = precede part Reads row u w e.call l.call e.of l.member e.ended (omega (arith, e.at, l.at));
        call = f.call;
        of = f.of;
        ended = f.ended;
        before = omega (arith, f.at);
      }

  pub overwritten_to : (u w : Call) (place end_u end_w last : ℕ) → IsFirstEnd part Reads row u (Some end_u) → IsFirstEnd part Reads row w (Some end_w) → IsLastBegin part Reads row w last → IsOverwrittenBy part Reads row place w u → (end_u < last) × (end_w < place)
  overwritten_to u w place end_u end_w last of_u of_w begins o =
      let m = o.precedes in
      let a = of_u.1 m.ended.response.place (record { call = m.first; of = m.of_x; ended = m.ended; at = refl }) in
      let b = begins.1 m.second.invoked (record { call = m.second; member = m.of_y; at = refl }) in
      let c = of_w.1 o.ended.response.place (record { call = o.call; of = o.of; ended = o.ended; at = refl }) in
      let less = ended_first part Reads row u w m in
      (omega arith, omega (arith, o.before))

  -- forgotten is overwritten before the first open read began
  pub overwritten_from_forgotten : (u w : Call) (place : ℕ) → IsFirstOpen part row place → IsForgottenBy part Reads row w u → IsOverwrittenBy part Reads row place w u
  overwritten_from_forgotten u w place is f = record {
    apart = f.apart;
    precedes = f.precedes;
    call = f.settled.call;
    of = f.settled.of;
    ended = f.settled.ended;
    before = elim is.reached [
      | inl next ↦ omega (arith, f.settled.ended.by)
      | inr read ↦ (let early = f.settled.early read.0 read.1 in omega (arith, read.2))
    ];
  }

  pub forgotten_from_overwritten : (u w : Call) (place : ℕ) → IsFirstOpen part row place → IsOverwrittenBy part Reads row place w u → IsForgottenBy part Reads row w u
  forgotten_from_overwritten u w place is o = record {
    apart = o.apart;
    precedes = o.precedes;
    settled = record {
      call = o.call;
      of = o.of;
      ended = o.ended;
      early = λ read opens. (let low = is.least read opens in omega (arith, o.before));
    };
  }

  pub forgotten_from : (u w : Call) (place end_u end_w last : ℕ) → u ≢ w → IsFirstOpen part row place → IsFirstEnd part Reads row u (Some end_u) → IsFirstEnd part Reads row w (Some end_w) → IsLastBegin part Reads row w last → (end_u < last) × (end_w < place) → IsForgottenBy part Reads row w u
  forgotten_from u w place end_u end_w last apart is of_u of_w begins h = forgotten_from_overwritten u w place is (overwritten_from u w place end_u end_w last apart of_u of_w begins h.0 h.1)

  pub forgotten_to : (u w : Call) (place end_u end_w last : ℕ) → IsFirstOpen part row place → IsFirstEnd part Reads row u (Some end_u) → IsFirstEnd part Reads row w (Some end_w) → IsLastBegin part Reads row w last → IsForgottenBy part Reads row w u → (end_u < last) × (end_w < place)
  forgotten_to u w place end_u end_w last is of_u of_w begins f = overwritten_to u w place end_u end_w last of_u of_w begins (overwritten_from_forgotten u w place is f)

  -- ---- the cut

  pub cut_for : (u w : Call) (cut : ℕ) → u ≢ w → IsCut part Reads row w cut → IsCutFor part Reads row u w cut
  cut_for u w cut apart c = record { apart = apart; settled = c.settled; begins = c.begins; greatest = λ other begin d. c.greatest other begin }

  pub forgotten_by_cut : (u w : Call) (cut end : ℕ) → IsCutFor part Reads row u w cut → IsFirstEnd part Reads row u (Some end) → end < cut → IsForgotten part Reads row u
  forgotten_by_cut u w cut end c of_u less =
      let e = of_u.0 in
      let b = c.begins in
      (w, record { apart = c.apart; precedes = precede part Reads row u w e.call b.call e.of b.member e.ended (omega (arith, e.at, b.at)); settled = c.settled })

  pub cut_of_forgotten : (u w : Call) (cut end : ℕ) → IsCutFor part Reads row u w cut → IsFirstEnd part Reads row u (Some end) → IsForgotten part Reads row u → end < cut
  cut_of_forgotten u w cut end c of_u f =
      let m = f.1.precedes in
      let a = of_u.1 m.ended.response.place (record { call = m.first; of = m.of_x; ended = m.ended; at = refl }) in
      let b = c.greatest f.0 m.second.invoked f.1.apart f.1.settled (record { call = m.second; member = m.of_y; at = refl }) in
      let less = ended_first part Reads row u f.0 m in
      omega arith
