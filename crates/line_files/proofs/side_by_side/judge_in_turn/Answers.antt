use Rattle.std.proofs.Common.{ap, ◌≡◌, ◌∙◌, List, [], ◌∷◌, ℕ, Bor, Result, subst}
use Rattle.std.specs.Prelude.{IfOk, Vec}
use Rattle.std.specs.List.{AllZip}
use Rattle.std.specs.declared.alloc.Global.{Global}
use Rattle.tag.specs.declared.memory.Memory.{Memory}
use Rattle.counted_devices.specs.declared.judgement.Judgement.{Judgement}
use Rattle.counted_devices.specs.Judgements.{ShowChunks}
use Rattle.rayon.proofs.ToStd.{slice-AllZip}
use Rattle.line_files.proofs.SideBySide.{collected}
use Rattle.line_files.proofs.side_by_side.judge_in_turn.Goals as goal

pub returns : goal.returns
returns g c =
    let lent = c.map.result.f.1.now in
    let known : lent ≡ c.args.under = ap (λ f. f.1.now) c.map.ensures.f in
    let slice = ap (λ it. it.base.slice.now) c.map.ensures.base ∙ (ap (λ it. it.slice.now) c.with_min_len.ensures.base ∙ c.par_iter.ensures) in
    let Shows : g.row.C-Context.Denot → Bor (List ℕ) → Vec (Judgement g.row.C-Item.Denot g.row.C-Fault.Denot) Global → Type 0 = λ under chunk run. ShowChunks (g.C.Contents.Shows under) (chunk.now ∷ []) run.items in
    let h = c.in_ok-runs.ensures in
    let chain = h.1 in
    let shown = slice-AllZip chain.0 c.args.chunks.now (chain.1 ∙ slice) (λ (chunk : Bor (List ℕ)) (run : Result (Vec (Judgement g.row.C-Item.Denot g.row.C-Fault.Denot) Global) Memory). IfOk run (Shows lent chunk)) h.0 chain.2 in
    let P : g.row.C-Context.Denot → Type 0 = λ under. IfOk c.in_ok-runs.runs (λ (found : Vec (Vec (Judgement g.row.C-Item.Denot g.row.C-Fault.Denot) Global) Global). AllZip (Shows under) c.args.chunks.now found.items) in
    subst P known (collected (Shows lent) (λ (found : Vec (Vec (Judgement g.row.C-Item.Denot g.row.C-Fault.Denot) Global) Global). found.items) c.args.chunks.now h.0 c.in_ok-runs.runs _ shown h.2)
