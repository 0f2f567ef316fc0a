-- The digits before the last are at most places - 1.
use Rattle.text.proofs.Page.+decimal.Given as goal

abbrev pub decreases-decimal : goal.decreases-decimal
decreases-decimal l = l.places
