-- Mirrors of code: `Rules`, what each rule makes of the weights of its premises.
pub mod Rules
