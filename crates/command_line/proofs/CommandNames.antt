-- Commands by their names.
use Rattle.std.proofs.Common.{◌≡◌, codes, List, rules, sym}
use Rattle.clap.specs.Words.{Row, Text, first_of}
use Rattle.std.specs.Prelude.{Some}
use Rattle.command_line.specs.Reading.{IsNone}
use Rattle.command_line.specs.RunWords.{AsksRun}
use Rattle.command_line.specs.Words.{AsksCheck, AsksDecision, AsksDrawing, AsksKeys, AsksMonitor, AsksOrders, AsksSplit, AsksTrace, AsksTracePage, MakesAs}
use Rattle.command_line.specs.declared.asked.Command.TheVariants.{Check, Decide, Draw, Explain, Justify, Monitor, Run, Simulate, Split, Trace, TracePage}

-- of the command of that name, if there is one, nothing is asked for
pub record AsksNone (name : Text) (rows : List Row) : Type 0 where
  pub check : name ≡ codes "check" → IsNone (AsksCheck rows)
  pub decide : name ≡ codes "decide" → IsNone (AsksDecision rows)
  pub draw : name ≡ codes "draw" → IsNone (AsksDrawing rows)
  pub explain : name ≡ codes "explain" → IsNone (AsksKeys rows)
  pub justify : name ≡ codes "justify" → IsNone (AsksOrders rows)
  pub monitor : name ≡ codes "monitor" → IsNone (AsksMonitor rows)
  pub simulate : name ≡ codes "simulate" → (script : Text) → first_of (codes "SCRIPT") rows ≡ Some script → ⊥
  pub split : name ≡ codes "split" → IsNone (AsksSplit rows)
  pub trace : name ≡ codes "trace" → (script : Text) → IsNone (AsksTrace rows script)
  pub page : name ≡ codes "trace" → (script : Text) → IsNone (AsksTracePage rows script)
  pub run : name ≡ codes "run" → IsNone (AsksRun rows)

-- so the words make no command
pub none_made : (name : Text) (rows : List Row) → AsksNone name rows → IsNone (MakesAs name rows)
none_made name rows none (Check asked) makes = none.check (sym makes.0) asked makes.1
none_made name rows none (Decide asked) makes = none.decide (sym makes.0) asked makes.1
none_made name rows none (Draw asked) makes = none.draw (sym makes.0) asked makes.1
none_made name rows none (Explain asked) makes = none.explain (sym makes.0) asked makes.1
none_made name rows none (Justify asked) makes = none.justify (sym makes.0) asked makes.1
none_made name rows none (Monitor asked) makes = none.monitor (sym makes.0) asked makes.1
none_made name rows none (Simulate script) makes = none.simulate (sym makes.0) script.now makes.1
none_made name rows none (Split asked) makes = none.split (sym makes.0) asked makes.1
none_made name rows none (Trace script most) makes = none.trace (sym makes.0) script.now most makes.1
none_made name rows none (TracePage script most) makes = none.page (sym makes.0) script.now most makes.1
none_made name rows none (Run asked) makes = none.run (sym makes.0) asked makes.1

-- of a trace
pub none_traced : (rows : List Row) → ((script : Text) → IsNone (AsksTrace rows script)) → ((script : Text) → IsNone (AsksTracePage rows script))
    → AsksNone (codes "trace") rows
none_traced rows told drawn = search rules
