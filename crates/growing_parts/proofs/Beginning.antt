-- A row that begins a call on the key.
use Rattle.std.proofs.Common.{ℕ, ◌≡◌, ◌<◌, ◌≤◌, ◌⊎◌, inl, inr, List, [], ◌∷◌, ◌++◌, length, length-append, ap, sym, ◌∙◌}
use Rattle.std.proofs.Common.{refl, arith}
use Rattle.std.specs.List.{Contains}
use Rattle.std.proofs.lemmas.List.Elements.{Contains-push, Contains-push_cases}
use Rattle.std.proofs.lemmas.Option.{slice_get_within, none-some}
use Rattle.tag.specs.declared.actions.Action.{Action}
use Rattle.tag.specs.declared.numbers.OpId.{OpId}
use Rattle.recorder.specs.declared.row.Row.{Row}
use Rattle.recorder.specs.declared.row.Row.TheVariants.{Invoke}
use Rattle.recorder.specs.declared.part.Call.{Call}
use Rattle.recorder.specs.Histories.{IsWellFormed, MayFollow}
use Rattle.value_order.specs.Zones.{IsLastRow}
use Rattle.kept_families.specs.Continued.{AreOpenIn}
use Rattle.key_monitor.specs.Judged.{BeginsCall, GoOn}
use Rattle.growing_parts.specs.NextRows.{HasBegunCall}
use Rattle.growing_parts.specs.PartsWithout.{AreReadsOf, IsPartWithout, StandsBy}
use Rattle.growing_parts.proofs.GoingOn.{go_on, open_forth}
use Rattle.growing_parts.proofs.NextParts.{begun_call, begun_part}
use Rattle.growing_parts.proofs.Rows.{agree_before, formed_next}

-- a call by rows with one more began at its place or before it
pub begun_by : (rows : List Row) (next : Row) (key gone : List ℕ) (after : List Call) → IsPartWithout (rows ++ next ∷ []) key gone after
    → (call : Call) → Contains after call → call.invoked ≤ length rows
begun_by rows next key gone after is call there =
    let within = slice_get_within (rows ++ next ∷ []) call.invoked _ (is.each call there).begun in
    omega (arith, within, length-append rows (next ∷ []))

module _ (rows : List Row) (formed : IsWellFormed rows) (key gone : List ℕ) (before : List Call) (is : IsPartWithout rows key gone before)
    (are : AreReadsOf rows gone) (op : OpId) (client : ℕ) (action : Action) (may : MayFollow rows (Invoke op client key action)) where
  abbrev row : Row
  row = Invoke op client key action

  abbrev new_call : Call
  new_call = begun_call rows formed key gone before is are op client action may

  abbrev calls : List Call
  calls = before ++ new_call ∷ []

  new_part : IsPartWithout (rows ++ row ∷ []) key gone calls
  new_part = begun_part rows formed key gone before is are op client action may

  one_more : (other : Call) → Contains calls other → (other ≡ new_call) ⊎ Contains before other
  one_more other h = elim (Contains-push_cases before new_call other h) [ inl w ↦ inr w | inr w ↦ inl (sym w) ]

  module _ (by : ℕ) (stands : StandsBy before by) (less : by < length rows) where
    new_last : IsLastRow calls by
    new_last call response h e = elim (one_more call h) [
      | inl same ↦ absurd (none-some response (sym (ap (λ (c : Call). c.response) same) ∙ e))
      | inr w ↦ stands.last call response w e
    ]

    new_on : GoOn by (length rows) before calls
    new_on = go_on by rows (rows ++ row ∷ []) key (agree_before by rows row less) gone gone before calls (formed_next rows row formed may)
        is new_part stands (λ n h. h) (λ call there counts. is.none call there) (length rows) (omega arith) (begun_by rows row key gone
        calls new_part)

    new_left : AreOpenIn by before calls
    new_left read o = inr (open_forth by rows (rows ++ row ∷ []) key (agree_before by rows row less) gone gone before calls (formed_next
        rows row formed may) is new_part stands (λ n h. h) read o (is.none read o.recorded))

    new_begins : BeginsCall by (length rows) before calls new_call
    new_begins = record {
      goes = new_on;
      later = less;
      last = new_last;
      recorded = Contains-push before new_call;
      at = refl;
      others = λ other h. elim (one_more other h) [ inl same ↦ inl same | inr w ↦ inr (stands.begun other w) ];
    }

  pub call_begins : HasBegunCall rows key gone before op client action
  call_begins = record {
    after = calls;
    call = new_call;
    part = new_part;
    number = refl;
    whose = refl;
    asks = refl;
    at = refl;
    begins = new_begins;
    opens = new_left;
    first = λ none. record { alone = ap (λ (l : List Call). l ++ new_call ∷ []) none; at = refl; pending = refl };
  }
