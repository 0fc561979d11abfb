-- Whatever puts the other items has put all.
use Rattle.std.proofs.Common.{drop}
use Rattle.rules.specs.Layout.{counted}
use Rattle.file_rule.specs.Written.{items}
use Rattle.file_text.proofs.Pieces.{Leads}
use Rattle.file_text.proofs.Lists.{items_from}
use Rattle.file_text.proofs.list.put_items.Given as goal

abbrev pub invariant-loop-i : goal.invariant-loop-i
invariant-loop-i g l =
    Leads l.initial.buffer l.initial.to (items g.text (counted l.blank l.slots l.count)) l.buffer l.to (items_from g.text l.i (drop l.i (counted l.blank l.slots l.count)))
