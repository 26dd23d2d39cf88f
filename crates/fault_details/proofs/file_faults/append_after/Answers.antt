use Rattle.std.proofs.Common.{ℕ, List, Option, ◌≡◌, ◌∙◌, ap, subst, inl, take}
use Rattle.std.specs.Prelude.{option_map}
use Rattle.std.specs.declared.io.traits.Take.{Take}
use Rattle.std.specs.Io.Take.{take_remaining}
use Rattle.std.proofs.lemmas.Result.{on_ok_weaker}
use Rattle.counted_devices.specs.Deliveries.{Delivers, ReadsAll}
use Rattle.file_format.specs.HistoriesFormat.{histories_format}
use Rattle.file_format.specs.Readings.{Reads}
use Rattle.history_file.specs.NumberedRows.{MakesNumbered}
use Rattle.fault_details.specs.FileFaults.{ReadsEarlier}
use Rattle.fault_details.proofs.file_faults.append_after.Goals as goal

-- what a reader of so many bytes has left
taken : {R : Type 0} (left : R → Option (List ℕ)) (t u : Take R) (again : R) (n : ℕ) → t ≡ u → u.limit ≡ n → u.inner ≡ again
    → take_remaining left t ≡ option_map (take n) (left again)
taken {R} left t u again n e limit inner =
    ap (λ (x : Take R). take_remaining left x) e ∙ (ap (λ (k : ℕ). option_map (take k) (left u.inner)) limit
    ∙ ap (λ (r : R). option_map (take n) (left r)) inner)

pub returns-in-Ok : goal.returns-in-Ok
returns-in-Ok g c =
    let left = take_remaining g.S.Read.remaining c.read_numbered_histories.new.reader.inner in
    let start = taken g.S.Read.remaining c.new-earlier.result.inner c.take.result c.args.again c.args.begins
    c.new-earlier.ensures.device c.take.ensures.limit c.take.ensures.inner in
    let earlier : ReadsEarlier (g.S.Read.remaining c.args.again) c.args.begins c.in-Ok.numbered = record {
      left = left;
      read = subst (λ (o : Option (List ℕ)).
          Delivers o left (ReadsAll (Reads histories_format MakesNumbered) left c.in-Ok.numbered)) start c.in-Ok.ensures.read;
    } in
    rw c.in-Json.is (on_ok_weaker c.append_row.result (λ h. inl (c.in-Ok.numbered, earlier, h)) c.append_row.ensures)
