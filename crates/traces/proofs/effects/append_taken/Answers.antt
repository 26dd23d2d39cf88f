use Rattle.std.proofs.Common.{ℕ, ◌≡◌, List, ◌++◌, codes, sym, ap, ◌∙◌, append_assoc}
use Rattle.std.proofs.lemmas.Result.{on_ok_weaker}
use Rattle.traces.specs.StepLines.{taken_text}
use Rattle.sentences.proofs.Appending.{more, more_two}
use Rattle.traces.proofs.effects.append_taken.Goals as goal

-- three pieces more
more_three : (old mid new p q r s : List ℕ) → mid ≡ old ++ p → new ≡ mid ++ (q ++ r ++ s) → new ≡ old ++ (p ++ q ++ r ++ s)
more_three old mid new p q r s before added =
    more_two old mid new p (q ++ r) s before added ∙ ap (λ (x : List ℕ). old ++ (x ++ s)) (sym (append_assoc p q r))

pub returns-in_ok-append_counted-in-Noted : goal.returns-in_ok-append_counted-in-Noted
unfolding taken_text
returns-in_ok-append_counted-in-Noted c =
    rw c.in-Noted.is (on_ok_weaker c.append_tag_between.result
    (more_three c.args.text.now.items _ _ _ (codes ": an ask quorum; it notes ") _ (codes " and puts") c.in_ok-append_counted-in-Noted.ensures)
    c.append_tag_between.ensures)

pub returns-in_ok-append_counted-in-Agreed : goal.returns-in_ok-append_counted-in-Agreed
unfolding taken_text
returns-in_ok-append_counted-in-Agreed c =
    rw c.in-Agreed.is (on_ok_weaker c.append_tag_between-in-Agreed.result
    (more_three c.args.text.now.items _ _ _ (codes ": an ask quorum that agrees on ") _ (codes "; its call is ready without a write-back")
    c.in_ok-append_counted-in-Agreed.ensures) c.append_tag_between-in-Agreed.ensures)

pub returns-in_ok-append_counted-in-Ready : goal.returns-in_ok-append_counted-in-Ready
unfolding taken_text
returns-in_ok-append_counted-in-Ready c =
    rw c.in-Ready.is (on_ok_weaker c.append-in-Ready.result
    (more c.args.text.now.items _ _ _ (codes ": a put quorum; its call is ready") c.in_ok-append_counted-in-Ready.ensures)
    c.append-in-Ready.ensures)
