use Rattle.std.proofs.Common.{sym}
use Rattle.fault_script.proofs.ItemLemmas.{blank_shows, comment_shows, set_shows, run_shows}
use Rattle.fault_script.proofs.shown.shown_by.Goals as goal

pub returns-in_default : goal.returns-in_default
returns-in_default c = blank_shows c.args.text.now c.in_default.ensures.words

pub returns-then-is_comment : goal.returns-then-is_comment
returns-then-is_comment c =
    comment_shows c.args.text.now c.in-Some.verb.now c.in-Some.args.now c.in-Some.ensures.words c.in-Some.ensures.behind
    (sym c.if-is_comment.ensures)

pub returns-in_ok-from_str-in-Some-setting_of : goal.returns-in_ok-from_str-in-Some-setting_of
returns-in_ok-from_str-in-Some-setting_of c =
    set_shows c.args.text.now c.in-Some.verb.now c.in-Some.args.now c.in-Some-setting_of.setting
    c.in_ok-from_str-in-Some-setting_of.field-0 c.in-Some.ensures.words c.in-Some.ensures.behind (sym c.if-is_comment.ensures)
    c.in-Some-setting_of.ensures c.in_ok-from_str-in-Some-setting_of.ensures.ok

pub returns-in_ok-command_shown-in-None : goal.returns-in_ok-command_shown-in-None
returns-in_ok-command_shown-in-None c =
    run_shows c.args.text.now c.in-Some.verb.now c.in-Some.args.now c.in_ok-command_shown-in-None.field-0
    c.in-Some.ensures.words c.in-Some.ensures.behind (sym c.if-is_comment.ensures) c.in-None.ensures
    c.in_ok-command_shown-in-None.ensures
