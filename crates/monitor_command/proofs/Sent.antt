-- What went out, one text after another.
use Rattle.std.proofs.Common.{ℕ, Bool, true, false, List, [], ◌++◌, Option, append_assoc, ap, ◌∙◌, subst, sym}
use Rattle.std.specs.Io.KnownBytes.{Appends}
use Rattle.std.proofs.KnownBytes.{Appends-nil, Appends-trans}
use Rattle.command_line.specs.declared.lines.Lines.{Lines}
use Rattle.record_monitor.specs.declared.taken.Taken.{Taken}
use Rattle.monitor_command.specs.Countings.{counts_text}
use Rattle.monitor_command.specs.Endings.{HasSent, IsRefusedAndTold, TellsCounts, TellsCountsOf, TellsLast, TellsRefusal}

pub sent_nothing : (a : Option (List ℕ)) → HasSent a a
sent_nothing a = record { text = []; sent = Appends-nil a }

module _ (a b c : Option (List ℕ)) where
  pub sent_more : HasSent a b → HasSent b c → HasSent a c
  sent_more h k = record { text = h.text ++ k.text; sent = Appends-trans a b c h.text k.text h.sent k.sent }

  -- what went out last is still so, whatever went out before
  told_last : (form : Lines) (monitor : Option Taken) → HasSent a b → TellsRefusal b c form monitor → TellsRefusal a c form monitor
  told_last form monitor h t = record {
    text = h.text ++ t.text;
    ends = record {
      report = t.ends.report;
      refusal = t.ends.refusal;
      there = t.ends.there;
      is = t.ends.is;
      before = h.text ++ t.ends.before;
      lines = t.ends.lines;
      told = t.ends.told;
      whole = ap (λ (l : List ℕ). h.text ++ l) t.ends.whole ∙ sym (append_assoc h.text t.ends.before t.ends.lines);
    };
    sent = Appends-trans a b c h.text t.text h.sent t.sent;
  }

  pub refused_last : (form : Lines) (bytes : List ℕ) → HasSent a b → IsRefusedAndTold b c form bytes → IsRefusedAndTold a c form bytes
  refused_last form bytes h r = record {
    refuted = r.refuted;
    monitor = r.monitor;
    seen = r.seen;
    told = told_last form r.monitor h r.told;
  }

  counts_of_last : (form : Lines) (monitor : Option Taken) → HasSent a b → TellsCountsOf b c form monitor → TellsCountsOf a c form monitor
  counts_of_last form monitor h t = record {
    counts = t.counts;
    are = t.are;
    before = h.text ++ t.before;
    sent = subst (λ (l : List ℕ). Appends a c l) (sym (append_assoc h.text t.before (counts_text form t.counts)))
        (Appends-trans a b c h.text (t.before ++ counts_text form t.counts) h.sent t.sent);
  }

  pub counts_last : (form : Lines) (bytes : List ℕ) → HasSent a b → TellsCounts b c form bytes → TellsCounts a c form bytes
  unfolding counts_of_last
  counts_last form bytes h t = record {
    rows = t.rows;
    all = t.all;
    monitor = t.monitor;
    taken = t.taken;
    told = counts_of_last form t.monitor h t.told;
    calls = t.calls;
    keys = t.keys;
  }

  pub told_last_of_all : (all : Bool) (form : Lines) (bytes : List ℕ) → HasSent a b → TellsLast b c all form bytes → TellsLast a c all form bytes
  told_last_of_all false form bytes h t = refused_last form bytes h t
  told_last_of_all true form bytes h t = counts_last form bytes h t
