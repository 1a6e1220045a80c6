-- What a recorder remembers.
use Rattle.std.specs.Prelude.{List, [], ◌∷◌, ◌++◌}
use Rattle.ipc_loop.specs.Moves.{Moved, LinkOpened, LinkGave, LinkTook, LinkClosed, NobodyCame, GaveNothing, TookNothing}
use Rattle.test_links.specs.declared.recorder.Entry.{Entry}
use Rattle.test_links.specs.declared.recorder.Entry.TheVariants.{Opened, Gave, Took}
use Rattle.test_links.specs.declared.recorder.Past.{Past}
use Rattle.test_links.specs.declared.recorder.Past.TheVariants.{Nothing, Did', Closed', NobodyCame', GaveNothing', TookNothing'}
use Rattle.test_links.specs.declared.recorder.Told.{Told}
use Rattle.test_links.specs.declared.recorder.Told.TheVariants as told
use Rattle.ipc_loop.specs.declared.links.Ready.{Ready}

abbrev pub moved_by : Entry → Moved
moved_by (Opened link) = LinkOpened link
moved_by (Gave link bytes) = LinkGave link bytes.items
moved_by (Took link bytes left) = LinkTook link bytes.items left

-- what links did and were told, and what they were asked for in vain, in order
abbrev pub moves_in : Past → List Moved
moves_in Nothing = []
moves_in (Did' entry _ _ past) = moves_in past ++ moved_by entry.value ∷ []
moves_in (Closed' link ending _ _ past) = moves_in past ++ LinkClosed link ending ∷ []
moves_in (NobodyCame' kind _ _ past) = moves_in past ++ NobodyCame kind ∷ []
moves_in (GaveNothing' link kind _ _ past) = moves_in past ++ GaveNothing link kind ∷ []
moves_in (TookNothing' link count kind _ _ past) = moves_in past ++ TookNothing link count kind ∷ []

-- what was told to be ready, in order
abbrev pub told_in : Told → List Ready
told_in told.Nothing = []
told_in (told.Also' ready _ _ before) = told_in before ++ ready ∷ []
