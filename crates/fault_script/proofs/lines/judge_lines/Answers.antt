use Rattle.std.proofs.Common.{List, [], ◌∷◌, take, sym, subst}
use Rattle.counted_devices.proofs.Chunks.{Shown, Shown-line, Shown-last}
use Rattle.counted_devices.proofs.CutLemmas.{behind, cut_at}
use Rattle.counted_devices.specs.Judgements.{ShowChunks}
use Rattle.counted_devices.specs.declared.judgement.Judgement.{Judgement}
use Rattle.fault_script.specs.declared.fault.LineFault.{LineFault}
use Rattle.fault_script.specs.declared.shown.Shown as line
use Rattle.fault_script.specs.LineItems.{ScriptLineShows}
use Rattle.fault_script.proofs.lines.judge_lines.Goals as goal

-- what lines show
abbrev Run : Type 0
Run = List (Judgement line.Shown LineFault)

pub loop-end-preserved : goal.loop-end-preserved
loop-end-preserved c =
    let chunk = c.args.chunk.now in
    let at = c.loop-end in
    let rest = at.rest.now in
    let end = c.in-Some.end in
    let found = c.in-Some.ensures in
    let S : Run → Type 0 = λ run. Shown ScriptLineShows chunk run (behind rest end) in
    record {
      shown = subst S (sym {A = Run} c.in_ok-push.ensures.items)
          (Shown-line ScriptLineShows chunk rest (take end rest) (behind rest end) at.run.items c.in_ok-judge.field-0 at.invariant.shown
          (cut_at rest end found.0 found.2) found.1 c.in_ok-judge.ensures);
    }

pub returns : goal.returns
returns c =
    let chunk = c.args.chunk.now in
    let at = c.loop-end in
    let S : Run → Type 0 = λ run. ShowChunks ScriptLineShows (chunk ∷ []) run in
    subst S (sym {A = Run} c.in_ok-push-2.ensures.items)
    (Shown-last ScriptLineShows chunk at.rest.now at.run.items c.in_ok-judge-2.field-0 at.invariant.shown c.in_default.ensures
    c.in_ok-judge-2.ensures)
