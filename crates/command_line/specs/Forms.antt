-- The commands of `abd`, as clap takes them.
use Rattle.std.specs.Prelude.{ℕ, ◌-◌, List, [], ◌∷◌, Option, Some, None, true, codes}
use Rattle.std.specs.Str.Parse.{digits_value}
use Rattle.clap.specs.Words.{App, Rule, new_app, with_subcommand}
use Rattle.load.specs.Ranges.{between, callers_range, calls_range, faults_range, keys_range}
use Rattle.load.specs.Ranges.{rounds_range}
use Rattle.load.specs.declared.ranges.NumberRange.{NumberRange}
use Rattle.parallel_keys.specs.Workers.{worker_limit}
use Rattle.recorder.specs.Halls.{hall_limit}
use Rattle.tag.specs.Limits.{replica_limit}
use Rattle.command_line.specs.CommandWords.{command_app, word}
use Rattle.command_line.specs.declared.word.Takes.TheVariants.{Argument, FreeArgument, Nothing}
use Rattle.command_line.specs.declared.word.Takes.TheVariants.{NeededNumber, NeededText}
use Rattle.command_line.specs.declared.word.Takes.TheVariants.{Number, Text, Texts}

-- ---- numbers that are asked for

-- how many threads check
abbrev pub workers_range : NumberRange
workers_range = between 1 worker_limit

-- the most keys that are explained or drawn, and calls or steps that are drawn
abbrev pub most_shown : ℕ
most_shown = 10000

-- how many keys are explained or drawn
abbrev pub shown_keys : NumberRange
shown_keys = between 0 most_shown

-- how many calls of a key are drawn
abbrev pub shown_calls : NumberRange
shown_calls = between 1 most_shown

-- the number of a call, of lines or of steps
abbrev pub any_number : NumberRange
any_number = between 0 4294967295

-- for how many rows a read may be pending
abbrev pub give_up_range : NumberRange
give_up_range = between 1 4294967295

-- how many pieces a history is split into
abbrev pub parts_range : NumberRange
parts_range = between 1 1000

-- how many replicas a store has
abbrev pub replicas_range : NumberRange
replicas_range = between 1 replica_limit

-- how many halls a store has
abbrev pub halls_range : NumberRange
halls_range = between 1 hall_limit

-- the hall whose history is written
abbrev pub shown_hall : NumberRange
shown_hall = between 0 (hall_limit - 1)

-- how many votes a quorum has at least: 15 replicas have up to 9 each
abbrev pub votes_range : NumberRange
votes_range = between 1 135

-- how many keys are explained or drawn, where the words don't say it
abbrev pub most_word : List ℕ
most_word = codes "20"

-- and how many calls of a key are drawn
abbrev pub calls_word : List ℕ
calls_word = codes "200"

-- how many keys as a number
abbrev pub default_most : ℕ
default_most = digits_value 10 most_word

-- and how many calls
abbrev pub default_calls : ℕ
default_calls = digits_value 10 calls_word

-- ---- the commands

-- the history, which has to be named
abbrev pub history : Rule
history = word (codes "HISTORY") None Argument

-- the option --most of keys, which has a default, or may be missing
abbrev pub most_keys : Option (List ℕ) → Rule
most_keys default = word (codes "most") default (Number shown_keys)

-- the option --json
abbrev pub json : Rule
json = word (codes "json") None Nothing

-- abd check HISTORY ORDERS [--workers N] [--json]
abbrev pub check_app : App
check_app = command_app (codes "check")
    (history ∷ word (codes "ORDERS") None Argument
    ∷ word (codes "workers") (Some (codes "1")) (Number workers_range) ∷ json ∷ [])

-- abd decide HISTORY [--key KEY]... [--most N] [--json]
abbrev pub decide_app : App
decide_app = command_app (codes "decide")
    (history ∷ word (codes "key") None Texts ∷ most_keys (Some most_word) ∷ json ∷ [])

-- the orders, which may be missing
abbrev pub free_orders : Rule
free_orders = word (codes "ORDERS") None FreeArgument

-- the option --key
abbrev pub key : Rule
key = word (codes "key") None Text

-- the option --by
abbrev pub by : Rule
by = word (codes "by") None Text

-- abd draw HISTORY [ORDERS] [--by HOW] [--key KEY] [--most N] [--calls N] [--around CALL] [--whole]
abbrev pub draw_app : App
draw_app = command_app (codes "draw")
    (history ∷ free_orders ∷ by ∷ key ∷ most_keys None
    ∷ word (codes "calls") (Some calls_word) (Number shown_calls)
    ∷ word (codes "around") None (Number any_number) ∷ word (codes "whole") None Nothing ∷ [])

-- abd explain HISTORY [ORDERS] [--key KEY] [--most N]
abbrev pub explain_app : App
explain_app = command_app (codes "explain") (history ∷ free_orders ∷ key ∷ most_keys None ∷ [])

-- abd justify HISTORY [--by HOW] [--unchecked]
abbrev pub justify_app : App
justify_app = command_app (codes "justify")
    (history ∷ by ∷ word (codes "unchecked") None Nothing ∷ [])

-- abd monitor [FILE] [--all] [--give-up N] [--json]
abbrev pub monitor_app : App
monitor_app = command_app (codes "monitor")
    (word (codes "FILE") None FreeArgument ∷ word (codes "all") None Nothing
    ∷ word (codes "give-up") (Some (codes "1000000")) (Number give_up_range) ∷ json ∷ [])

-- abd simulate SCRIPT
abbrev pub simulate_app : App
simulate_app = command_app (codes "simulate") (word (codes "SCRIPT") None Argument ∷ [])

-- abd split [FILE] --parts N --into DIR
abbrev pub split_app : App
split_app = command_app (codes "split")
    (word (codes "FILE") None FreeArgument ∷ word (codes "parts") None (NeededNumber parts_range)
    ∷ word (codes "into") None NeededText ∷ [])

-- abd trace SCRIPT [--most N] [--draw]
abbrev pub trace_app : App
trace_app = command_app (codes "trace")
    (word (codes "SCRIPT") None Argument ∷ word (codes "most") None (Number any_number)
    ∷ word (codes "draw") None Nothing ∷ [])

-- abd run: how large the load is, what the gate does, how long a call goes on, the halls, how
-- clients read, and the quorums
abbrev pub run_app : App
run_app = command_app (codes "run")
    (word (codes "replicas") (Some (codes "3")) (Number replicas_range)
    ∷ word (codes "callers") (Some (codes "4")) (Number callers_range)
    ∷ word (codes "calls") (Some (codes "50")) (Number calls_range)
    ∷ word (codes "keys") (Some (codes "2")) (Number keys_range)
    ∷ word (codes "rounds") (Some (codes "1000")) (Number rounds_range)
    ∷ word (codes "drop") (Some (codes "0")) (Number faults_range)
    ∷ word (codes "double") (Some (codes "0")) (Number faults_range)
    ∷ word (codes "halls") (Some (codes "1")) (Number halls_range)
    ∷ word (codes "show") None (Number shown_hall)
    ∷ word (codes "reads") (Some (codes "full")) Text
    ∷ word (codes "votes") None Text
    ∷ word (codes "ask") None (Number votes_range)
    ∷ word (codes "put") None (Number votes_range)
    ∷ [])

-- abd by itself, which has a version and needs a command
abbrev pub bare_app : App
bare_app =
    let app = new_app (codes "abd") in
    record app { top = record app.top { has_version = true; subcommand_required = true } }

-- abd with its commands
abbrev pub abd_app : App
abd_app = with_subcommand (with_subcommand (with_subcommand (with_subcommand (with_subcommand
    (with_subcommand (with_subcommand (with_subcommand (with_subcommand (with_subcommand bare_app
    check_app.top) decide_app.top) draw_app.top) explain_app.top) justify_app.top) monitor_app.top)
    simulate_app.top) split_app.top) trace_app.top) run_app.top
