-- What no promise rests on, beside claim/Begun.antt.
use Rattle.desk_gallery.specs.claim.Begun.{Beginning}

-- stands where nothing is picked
abbrev pub nobody : Beginning
nobody D g x = ⊥
