use Rattle.std.proofs.Common.{List, ℕ, ◌∷◌, [], Bor, map, subst, sym}
use Rattle.std.specs.Prelude.{Vec}
use Rattle.std.specs.declared.alloc.Global.{Global}
use Rattle.counted_devices.specs.declared.judgement.Judgement.{Judgement}
use Rattle.counted_devices.specs.Judgements.{ShowChunks}
use Rattle.counted_devices.proofs.Chunks.{show_all}
use Rattle.line_files.proofs.side_by_side.judge_chunks.Goals as goal

pub returns : goal.returns
returns g c =
    let chunks = map (λ (chunk : Bor (List ℕ)). chunk.now) c.args.chunks.now in
    let P : List (Judgement g.row.C-Item.Denot g.row.C-Fault.Denot) → Type 0 = λ js. ShowChunks (g.C.Contents.Shows c.args.under) chunks js in
    subst P (sym c.of.ensures) (show_all (g.C.Contents.Shows c.args.under) (λ (chunk : Bor (List ℕ)). chunk.now) (λ (run : Vec (Judgement g.row.C-Item.Denot g.row.C-Fault.Denot) Global). run.items) c.args.chunks.now c.in_ok-runs.runs.items c.in_ok-runs.ensures)
