-- What is seen of the outside world: before a call of the program, and after it.
use Rattle.std.specs.Prelude.{ℕ, List, map}
use Rattle.std.specs.Option.{option_map}
use Rattle.flux_outside.specs.Streams.{Stream}
use Rattle.flux_doors.specs.Seen.{SeenLink, SeenDoor}
use Rattle.flux_commands.specs.Told.{Files, Folders, Told}
use Rattle.flux_driver.specs.declared.outermost.World.{World}

-- what gives files: the names that it was asked for, and how often it has failed; the same of
-- folders
pub record Giver : Type 0 where
  pub asked : List (List ℕ)
  pub faults : ℕ

-- what files and folders hold, who gives them, the two streams, and the door, with what is seen of
-- its links
pub record Seen : Type 0 where
  pub told : Told
  pub store : Giver
  pub folder : Giver
  pub out : Stream
  pub err : Stream
  pub door : SeenDoor SeenLink

-- what is seen of a door, with links as what is seen of them
abbrev pub door_by : {L : Type 0} → (L → SeenLink) → SeenDoor L → SeenDoor SeenLink
door_by see door = record {
  to_come = option_map (map (map see)) door.to_come;
  taken_back = option_map (map see) door.taken_back;
  open_at = door.open_at;
  faults = door.faults;
  late = door.late;
}

-- what is seen of a world, by what each of its parts reports: the store, the folder, the two
-- streams, the links and the door
abbrev pub seen_by : {S F O E D L : Type 0} → (S → Files) → (S → List (List ℕ)) → (S → ℕ)
    → (F → Folders) → (F → List (List ℕ)) → (F → ℕ) → (O → Stream) → (E → Stream)
    → (L → SeenLink) → (D → SeenDoor L) → World S F O E D → Seen
seen_by files asked faults folders asked_folder folder_faults out err see door world = record {
  told = record { files = files world.store; folders = folders world.folder };
  store = record { asked = asked world.store; faults = faults world.store };
  folder = record { asked = asked_folder world.folder; faults = folder_faults world.folder };
  out = out world.out;
  err = err world.err;
  door = door_by see (door world.door);
}
