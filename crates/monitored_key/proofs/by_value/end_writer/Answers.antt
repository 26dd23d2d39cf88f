use Rattle.std.proofs.Common.{◌≡◌, Some, sym, subst, ◌∙◌}
use Rattle.std.proofs.lemmas.Option.{same_Some}
use Rattle.std.proofs.lemmas.Result.{on_ok_weaker}
use Rattle.kept_writers.specs.Written.{HasEnd, Written}
use Rattle.monitored_key.specs.Maps.{text_at}
use Rattle.monitored_key.proofs.Maps.{sets_text, there}
use Rattle.monitored_key.proofs.by_value.end_writer.Goals as goal

pub returns : goal.returns
returns c = λ w is.
    let old = c.args.values.now in
    let text = c.args.text.now in
    let new : Written = c.end.new.self in
    let at : text_at old text ≡ Some c.in-Some.writers.now = sym c.in-Some.ensures.value in
    let same : c.in-Some.writers.now ≡ w = same_Some c.in-Some.writers.now w (sym at ∙ is) in
    on_ok_weaker c.end.result (λ h. (
      new,
      subst (λ (x : Written). HasEnd x c.args.number c.args.end new) same h,
      sets_text old (c.get_mut.follows.lender new) text new
          ((c.get_mut.follows.holds new).3 (there (text_at old text) c.in-Some.writers.now at)),
    )) c.end.ensures.ok
