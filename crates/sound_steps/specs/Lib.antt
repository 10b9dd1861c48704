pub mod FitSteps
