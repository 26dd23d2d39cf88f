use Rattle.std.proofs.Common.{◌≡◌, ◌∙◌, Option, Some, ap}
use Rattle.std.proofs.lemmas.Result.{err_from_is_err_and}
use Rattle.fault_script.specs.declared.parse_line.Said.{Said}
use Rattle.fault_script.specs.declared.parse_line.Said.TheVariants.{Opens, Runs}
use Rattle.fault_script.proofs.Chains.{done}
use Rattle.fault_script.proofs.DraftLemmas.{drawn_blank, drawn_command, drawn_stop}
use Rattle.line_files.proofs.Leaving.{stays_made}
use Rattle.fault_script.specs.Drafts.{Drafts}
use Rattle.fault_script.proofs.draft.DraftContents.follow.Goals as goal

abbrev some_of : Said → Option Said
some_of said = Some said

pub returns-in_err-opened-clause-read : goal.returns-in_err-opened-clause-read
returns-in_err-opened-clause-read c = λ before text under d is shows number.
    let p = err_from_is_err_and c.from_residual.result c.from_residual.ensures.1 in
    let old = c.args.self.now in
    rw (p.1, p.2) (drawn_stop before old old text c.args.shown c.in_err-opened.field-0.0 d shows c.in_err-opened.ensures.said)

pub returns-in_err-opened-clause-kept : goal.returns-in_err-opened-clause-kept
returns-in_err-opened-clause-kept c = λ before d.
    let p = err_from_is_err_and c.from_residual.result c.from_residual.ensures.1 in
    rw (p.1, p.2) (stays_made (Drafts before) c.in_err-opened.field-0.0 c.args.self.now d)

pub returns-in-Some-Opens-clause-read : goal.returns-in-Some-Opens-clause-read
returns-in-Some-Opens-clause-read c = λ before text under d is shows number.
    let said : c.in_ok-opened.field-0 ≡ some_of (Opens c.in-Some-Opens.opened) = c.in-Some-Opens.is ∙ ap some_of c.in-Some-Opens.field-0-is in (
      drawn_command before c.args.self.now c.open.new.self text c.args.line c.args.shown (Opens c.in-Some-Opens.opened) d number shows
          (c.in_ok-opened.ensures.said ∙ ap done said) (λ saids. c.open.ensures saids c.args.line),
      is,
    )

pub returns-in_ok-run-in-Some-Runs-clause-read : goal.returns-in_ok-run-in-Some-Runs-clause-read
returns-in_ok-run-in-Some-Runs-clause-read c = λ before text under d is shows number.
    let said : c.in_ok-opened.field-0 ≡ some_of (Runs c.in-Some-Runs.command) = c.in-Some-Runs.is ∙ ap some_of c.in-Some-Runs.field-0-is in (
      drawn_command before c.args.self.now c.run.new.self text c.args.line c.args.shown (Runs c.in-Some-Runs.command) d number shows
          (c.in_ok-opened.ensures.said ∙ ap done said) c.in_ok-run-in-Some-Runs.ensures,
      is,
    )

pub returns-in-None-clause-read : goal.returns-in-None-clause-read
returns-in-None-clause-read c = λ before text under d is shows number.
    (drawn_blank before c.args.self.now text c.args.shown d shows (c.in_ok-opened.ensures.said ∙ ap done c.in-None.is), is)
