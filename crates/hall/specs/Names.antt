-- What identifies a hall's queue.
use Rattle.atomic_table.specs.Seated.{TableId}
use Rattle.atomic_table.specs.declared.badge.Badge.{Badge}
use Rattle.crossbeam_channel.specs.Claims.{no_key}
use Rattle.crossbeam_channel.specs.declared.flavors.array.Key.{Key}
use Rattle.logbook.specs.Pages.{Book}
use Rattle.board.specs.Rule.{no_book}
use Rattle.hall.specs.declared.messages.Message.{Message}

-- The name of a queue, with its hall's list of closings.
pub record QueueName : Type 0 where
  -- the table of turns
  pub queue : TableId
  -- the key of the places
  pub key : Badge (Key Message)
  -- the list of closings
  pub closings : Book

-- A name of no queue.
abbrev pub no_name : QueueName
no_name = record { queue = (no_key {X = Message}).table_id; key = no_key; closings = no_book }
