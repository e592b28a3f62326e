use Rattle.std.proofs.Common.{◌≡◌, ◌+◌, ◌^◌, ◌<◌, drop, None}
use Rattle.elimination.specs.Links.{need}
use Rattle.solutions.specs.Walks.{walk_from, instance_of}
use Rattle.solutions.specs.Turns.{turns_from}
use Rattle.solutions.proofs.walks.Reading.walk.Given as goal

-- what is left of the walk
abbrev pub invariant-loop-spot : goal.invariant-loop-spot
invariant-loop-spot l =
    record {
      low : l.walk.line_up < 2 ^ l.spot;
      room : l.start + need (drop l.spot l.self.link_sets.now) ≡ need l.self.link_sets.now;
      line_up :
          walk_from (drop l.spot l.self.link_sets.now) (drop l.start l.self.cells.now) l.switches l.spot l.walk.line_up
          ≡ instance_of l.self.link_sets.now l.self.cells.now l.switches;
      turn :
          turns_from (drop l.spot l.self.link_sets.now) (drop l.start l.self.cells.now) l.switches l.spot l.walk.line_up l.walk.turn
          ≡ turns_from l.self.link_sets.now l.self.cells.now l.switches 0 0 None;
    }
