use Rattle.std.proofs.Common.{List, ℕ, ◌∷◌, ◌++◌, [], Bor, subst, sym}
use Rattle.std.specs.Prelude.{Vec}
use Rattle.std.specs.List.{AllZip}
use Rattle.std.specs.declared.alloc.Global.{Global}
use Rattle.std.proofs.lemmas.Result.{IfOk-at_ok}
use Rattle.counted_devices.specs.declared.judgement.Judgement.{Judgement}
use Rattle.counted_devices.specs.Judgements.{ShowChunks}
use Rattle.counted_devices.proofs.Zips.{AllZip-append}
use Rattle.line_files.proofs.side_by_side.+shares.Goals as goal

pub returns : goal.returns
returns g t c =
    let cut = c.split_at in
    let share = cut.result.0.now in
    let others = cut.result.1.now in
    let Run : Type 0 = Vec (Judgement g.row.C-Item.Denot g.row.C-Fault.Denot) Global in
    let Shows : Bor (List ℕ) → Run → Type 0 = λ chunk run. ShowChunks (g.C.Contents.Shows c.args.under) (chunk.now ∷ []) run.items in
    let first = IfOk-at_ok (λ (v : Vec Run Global). AllZip Shows share v.items) c.in_ok-runs.was c.join-first.ensures.first in
    let later = IfOk-at_ok (λ (v : Vec Run Global). AllZip Shows others v.items) c.in_ok-later.was c.join-first.ensures.second in
    let both = c.in_ok-runs.runs.items ++ c.in_ok-later.field-0.items in
    let P : List (Bor (List ℕ)) → Type 0 = λ chunks. AllZip Shows chunks both in
    let Q : List Run → Type 0 = λ runs. AllZip Shows c.args.chunks.now runs in
    subst Q (sym c.in_ok-append.ensures.items) (subst P (sym cut.ensures.by_index.0) (AllZip-append Shows share c.in_ok-runs.runs.items others _ first later))
