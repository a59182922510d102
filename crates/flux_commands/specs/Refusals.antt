-- What a refusal is answered by: its status, and its line.
use Rattle.std.specs.Prelude.{ℕ, List, []}
use Rattle.flux_items.specs.declared.rules.ItemFault.{ItemFault}
use Rattle.flux_items.specs.declared.rules.ItemFault.TheVariants as items_
use Rattle.flux_commands.specs.declared.statuses.Status.{Status}
use Rattle.flux_commands.specs.declared.statuses.Status.TheVariants as statuses
use Rattle.flux_commands.specs.declared.refusals.Refusal.{Refusal}
use Rattle.flux_commands.specs.declared.refusals.Refusal.TheVariants.{Usage, Static, Items, Read, Missing, NotServed, Memory}
use Rattle.flux_commands.specs.Causes.{usage_line, item_fault_line, read_line, lost_line, not_served_line}

-- the status of a refusal
abbrev pub status_of : Refusal → Status
status_of Usage = statuses.Usage
status_of (Static line) = statuses.Static
status_of (Items fault) = statuses.Items
status_of Read = statuses.Read
status_of (Missing name) = statuses.Missing
status_of NotServed = statuses.NotServed
status_of Memory = statuses.Memory

-- its line
abbrev pub line_of : Refusal → List ℕ
line_of Usage = usage_line
line_of (Static line) = line
line_of (Items fault) = item_fault_line fault
line_of Read = read_line
line_of (Missing name) = lost_line name.now
line_of NotServed = not_served_line
line_of Memory = []

-- the refusal of an items text
abbrev pub of_items : ItemFault → Refusal
of_items (items_.BadItem line) = Items (items_.BadItem line)
of_items (items_.UnknownSource line) = Items (items_.UnknownSource line)
of_items (items_.ItemTypes line) = Items (items_.ItemTypes line)
of_items (items_.TooMany line) = Items (items_.TooMany line)
of_items items_.Memory = Memory
