-- `release_join::join_rest` meets its contract: its two parts, with an open heap between them. Assumes nothing.
use Rattle.release_join.specs.Join.{next-has, rest-gave}
use Rattle.release_join.proofs.join_rest.Goals as goal

pub put_down-requires : goal.put_down-requires
put_down-requires c =
    (next-has _ _ _ _ c.requires.0.ok c.requires.0.holds c.join_next-s.ensures.0, c.join_next-s.ensures.1)

pub returns : goal.returns
returns c = record { does = λ h o O. rest-gave h _ _ _ o O c.join_next-s.ensures.0 c.put_down.ensures }
