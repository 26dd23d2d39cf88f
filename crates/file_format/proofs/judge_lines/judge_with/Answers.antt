use Rattle.std.proofs.Common.{ℕ, List, [], ◌∷◌, Result, take, sym, subst}
use Rattle.counted_devices.specs.declared.judgement.Judgement.{Judgement}
use Rattle.counted_devices.specs.Judgements.{ShowChunks}
use Rattle.counted_devices.proofs.Chunks.{Shown, Shown-line, Shown-last}
use Rattle.counted_devices.proofs.CutLemmas.{behind, cut_at}
use Rattle.file_format.specs.declared.fault.LineFault.{LineFault}
use Rattle.file_format.specs.Lines.{LineShows}
use Rattle.file_format.proofs.judge_lines.judge_with.Goals as goal

pub loop-end-preserved : goal.loop-end-preserved
loop-end-preserved g c =
    let Shows : List ℕ → Result g.row.T.Denot LineFault → Type 0 = LineShows (g.T.LineItem.meaning c.args.header) in
    let chunk = c.args.chunk.now in
    let at = c.loop-end in
    let rest = at.rest.now in
    let end = c.in-Some.end in
    let found = c.in-Some.ensures in
    let S : List (Judgement g.row.T.Denot LineFault) → Type 0 = λ js. Shown Shows chunk js (behind rest end) in
    record {
      shown = subst S (sym c.in_ok-push.ensures.items)
          (Shown-line Shows chunk rest (take end rest) (behind rest end) at.run.items c.in_ok-judge.field-0 at.invariant.shown
          (cut_at rest end found.0 found.2) found.1 c.in_ok-judge.ensures);
    }

pub returns : goal.returns
returns g c =
    let Shows : List ℕ → Result g.row.T.Denot LineFault → Type 0 = LineShows (g.T.LineItem.meaning c.args.header) in
    let chunk = c.args.chunk.now in
    let at = c.loop-end in
    let S : List (Judgement g.row.T.Denot LineFault) → Type 0 = λ js. ShowChunks Shows (chunk ∷ []) js in
    subst S (sym c.in_ok-push-2.ensures.items)
    (Shown-last Shows chunk at.rest.now at.run.items c.in_ok-judge-2.field-0 at.invariant.shown c.in_default.ensures
    c.in_ok-judge-2.ensures)
