use Rattle.desk.proofs.Hands.{fresh_in_step, loaded_sound, sound_moved}
use Rattle.desk.proofs.Loads.{loaded_idle}
use Rattle.desk.proofs.folder.Folder.load.Goals as goal

pub invariant_of-result : goal.invariant_of-result
invariant_of-result g c =
    let loaded = c.load_in-sheet.ensures.loaded in
    record {
      in_step =
          fresh_in_step (sound_moved (cc) (loaded_sound _ _ _ _ _ loaded)) c.in_ok-hand.ensures.items
          (loaded_idle _ _ _ _ _ _ _ loaded) c.in_ok-hand.ensures.capacity;
    }
