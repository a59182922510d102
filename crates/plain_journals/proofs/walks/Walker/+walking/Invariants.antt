use Rattle.plain_journals.proofs.walks.Walker.+walking.Given as goal

abbrev pub decreases-members : goal.decreases-members
decreases-members l = l.depth

abbrev pub decreases-choose : goal.decreases-choose
decreases-choose l = l.depth

abbrev pub decreases-body : goal.decreases-body
decreases-body l = l.depth

abbrev pub decreases-handle : goal.decreases-handle
decreases-handle l = l.depth

abbrev pub decreases-walk : goal.decreases-walk
decreases-walk l = l.depth
