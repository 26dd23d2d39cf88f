-- What was found stays so.
use Rattle.std.proofs.Common.{ℕ, ◌≡◌, ◌≢◌, ◌+◌, inl, inr, List, [], ◌∷◌, ◌++◌, Some, Bool, take, sym, ap, subst, arith}
use Rattle.std.specs.List.{slice_get, Contains}
use Rattle.std.proofs.lemmas.List.{take-append-le}
use Rattle.std.proofs.lemmas.List.Elements.{Contains-push_cases}
use Rattle.std.proofs.lemmas.Option.{slice_get_within}
use Rattle.tag.specs.declared.actions.Action.TheVariants.{Read}
use Rattle.tag.specs.declared.actions.Returned.TheVariants.{Value}
use Rattle.tag.specs.declared.numbers.OpId.{OpId}
use Rattle.tag.proofs.Lists.{slice_get-push_left}
use Rattle.recorder.specs.declared.row.Row.{Row}
use Rattle.recorder.specs.declared.row.Row.TheVariants.{Invoke, Respond}
use Rattle.recorder.specs.Orders.{IsLinearizable}
use Rattle.growing_parts.specs.PartsWithout.{IsPartWithout}
use Rattle.monitored_key.specs.declared.judged.Judged.{Judged}
use Rattle.monitored_key.specs.declared.judged.Judged.TheVariants as judged
use Rattle.monitored_key.specs.declared.judged.Refusal.{Refusal}
use Rattle.record_monitor.specs.declared.report.Finding.{Finding}
use Rattle.record_monitor.specs.declared.report.Finding.TheVariants.{Refused, Undecided, EndedAfterAll}
use Rattle.record_monitor.specs.declared.report.Report.{Report}
use Rattle.record_monitor.specs.Judgements.{WasFound, WasJudged}
use Rattle.record_monitor.specs.Waiting.{AreGivenUp}
use Rattle.record_monitor.specs.Watched.{HadOrder, HadOrders, HasReport, IsTrueReport, WasDoubted, WasEnded, WasRefused}
use Rattle.record_monitor.proofs.Counting.{one_longer}

-- each report of the one list is in the other
abbrev pub AreAmong : List Report → List Report → Type 0
AreAmong one other = (report : Report) → Contains one report → Contains other report

pub refused_among : (most : ℕ) (rows : List Row) (key : List ℕ) (number : ℕ) (doubt : Bool) (one other : List Report) → AreAmong one other
    → WasRefused most rows key number doubt one → WasRefused most rows key number doubt other
refused_among most rows key number doubt one other among w = record {
  place = w.place;
  refusal = w.refusal;
  reported = among (record { place = w.place; key = number; finding = Refused w.refusal }) w.reported;
  judged = w.judged;
  ordered = w.ordered;
}

pub doubted_among : (one other : List Report) (number : ℕ) → AreAmong one other → WasDoubted one number → WasDoubted other number
doubted_among one other number among w = (
  w.0,
  w.1,
  w.2,
  w.3,
  among (record { place = w.0; key = number; finding = Undecided w.1 w.2 w.3 }) w.4,
)

pub ended_among : (one other : List Report) (op : OpId) → AreAmong one other → WasEnded one op → WasEnded other op
ended_among one other op among w = (w.0, w.1, among (record { place = w.0; key = w.1; finding = EndedAfterAll op }) w.2)

module _ (most : ℕ) (rows : List Row) (row : Row) (key : List ℕ) where
  abbrev pub judged_on : (place : ℕ) (found : Judged) → WasJudged most rows key place found
      → WasJudged most (rows ++ row ∷ []) key place found
  judged_on place found w =
      let within = slice_get_within rows place (Respond w.op (Value w.value)) w.answers in
      let before : take place (rows ++ row ∷ []) ≡ take place rows = take-append-le place rows (row ∷ []) (omega arith) in
      let after : take (place + 1) (rows ++ row ∷ []) ≡ take (place + 1) rows = take-append-le (place + 1) rows (row ∷ []) (omega arith) in
      record {
        op = w.op;
        client = w.client;
        begin = w.begin;
        value = w.value;
        begins = slice_get-push_left rows row w.begin (Invoke w.op w.client key Read) w.begins;
        answers = slice_get-push_left rows row place (Respond w.op (Value w.value)) w.answers;
        gone = w.gone;
        given_up = subst (λ (rs : List Row). AreGivenUp most rs w.gone) (sym before) w.given_up;
        before = w.before;
        was = subst (λ (rs : List Row). IsPartWithout rs key w.gone w.before) (sym before) w.was;
        after = w.after;
        is = subst (λ (rs : List Row). IsPartWithout rs key w.gone w.after) (sym after) w.is;
        source = w.source;
        row = w.row;
        state = w.state;
        follows = w.follows;
        verdict = w.verdict;
        means = w.means;
      }

  pub refused_on : (number : ℕ) (doubt : Bool) (reports : List Report) → WasRefused most rows key number doubt reports
      → WasRefused most (rows ++ row ∷ []) key number doubt reports
  refused_on number doubt reports w = record {
    place = w.place;
    refusal = w.refusal;
    reported = w.reported;
    judged = judged_on w.place (judged.Refused w.refusal) w.judged;
    ordered = w.ordered;
  }

  pub found_on : (place : ℕ) (finding : Finding) → WasFound most rows key place finding → WasFound most (rows ++ row ∷ []) key place finding
  found_on place (Refused refusal) w = judged_on place (judged.Refused refusal) w
  found_on place (Undecided op one two) w = (judged_on place (judged.Undecided one two) w.0, w.1)
  found_on place (EndedAfterAll op) w = record {
    client = w.client;
    begin = w.begin;
    returned = w.returned;
    begins = slice_get-push_left rows row w.begin (Invoke op w.client key Read) w.begins;
    answers = slice_get-push_left rows row place (Respond op w.returned) w.answers;
    late = w.late;
  }

-- so does a report, also when more keys were seen
pub true_on : (most : ℕ) (rows : List Row) (row : Row) (keys later : List (List ℕ)) → ((n : ℕ) (key : List ℕ) → slice_get keys n ≡ Some key
    → slice_get later n ≡ Some key) → (report : Report) → IsTrueReport most rows keys report
    → IsTrueReport most (rows ++ row ∷ []) later report
true_on most rows row keys later still report t = record {
  key = t.key;
  seen = still report.key t.key t.seen;
  found = found_on most rows row t.key report.place report.finding t.found;
}

-- ---- the orders before refusals

-- each refusal of the key of that number that the one list reports is reported in the other
abbrev pub AreRefusalsAmong : ℕ → List Report → List Report → Type 0
AreRefusalsAmong number one other = (place : ℕ) (refusal : Refusal) → HasReport one place number (Refused refusal)
    → HasReport other place number (Refused refusal)

pub refusals_same : (number : ℕ) (one other : List Report) → one ≡ other → AreRefusalsAmong number one other
refusals_same number one other same place refusal h =
    subst (λ (l : List Report). HasReport l place number (Refused refusal)) same h

-- a report of another key is none of them
pub refusals_of_others : (one other : List Report) (report : Report) → one ≡ other ++ report ∷ [] → (n : ℕ) → n ≢ report.key
    → AreRefusalsAmong n one other
refusals_of_others one other report more n apart place refusal h =
    elim (Contains-push_cases other report (record { place = place; key = n; finding = Refused refusal })
    (subst (λ (l : List Report). HasReport l place n (Refused refusal)) more h)) [
      | inl w ↦ w
      | inr same ↦ absurd (apart (ap (λ (r : Report). r.key) (sym same)))
    ]

-- nor is that of another finding
pub refusals_but : (one other : List Report) (place number : ℕ) (op : OpId)
    → one ≡ other ++ record { place = place; key = number; finding = EndedAfterAll op } ∷ [] → (n : ℕ) → AreRefusalsAmong n one other
refusals_but one other place number op more n p refusal h =
    let ended : Report = record { place = place; key = number; finding = EndedAfterAll op } in
    let refused : Report = record { place = p; key = n; finding = Refused refusal } in
    elim (Contains-push_cases other ended refused (subst (λ (l : List Report). HasReport l p n (Refused refusal)) more h)) [
      | inl w ↦ w
      | inr same ↦ (let it : EndedAfterAll op ≡ Refused refusal = ap (λ (r : Report). r.finding) same in absurd (cc))
    ]

-- what was ordered by the rows is ordered by one more
pub had_on : (most : ℕ) (rows : List Row) (row : Row) (key : List ℕ) (place : ℕ) → HadOrder most rows key place
    → HadOrder most (rows ++ row ∷ []) key place
had_on most rows row key place h =
    let before : take place (rows ++ row ∷ []) ≡ take place rows = take-append-le place rows (row ∷ []) h.within in
    record {
      within = omega (arith, h.within, one_longer rows row);
      gone = h.gone;
      given_up = subst (λ (rs : List Row). AreGivenUp most rs h.gone) (sym before) h.given_up;
      before = h.before;
      was = subst (λ (rs : List Row). IsPartWithout rs key h.gone h.before) (sym before) h.was;
      ordered = h.ordered;
    }

-- the calls before an answer that was judged
pub had_before : (most : ℕ) (rows : List Row) (key : List ℕ) (place : ℕ) (found : Judged) (w : WasJudged most rows key place found)
    → IsLinearizable w.before → HadOrder most rows key place
had_before most rows key place found w ordered = record {
  within = omega (arith, slice_get_within rows place (Respond w.op (Value w.value)) w.answers);
  gone = w.gone;
  given_up = w.given_up;
  before = w.before;
  was = w.was;
  ordered = ordered;
}

pub orders_on : (most : ℕ) (rows after : List Row) (key : List ℕ) (number : ℕ) (reports later : List Report)
    → ((place : ℕ) → HadOrder most rows key place → HadOrder most after key place) → AreRefusalsAmong number later reports
    → HadOrders most rows key number reports → HadOrders most after key number later
orders_on most rows after key number reports later on back had place refusal h = on place (had place refusal (back place refusal h))
